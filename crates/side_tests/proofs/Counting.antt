-- What calls keep that draw from a plain count.
use Rattle.std.specs.Prelude.{◌≡◌, ℕ, ◌-◌, ◌^◌, List, [], ◌∷◌, ⊤}
use Rattle.std.proofs.Common.{sym, subst, ◌∙◌}
use Rattle.joint_machine.specs.declared.names.Thread.{Thread}
use Rattle.joint_machine.specs.declared.events.Made.{Made}
use Rattle.joint_machine.specs.declared.events.Op.{Op}
use Rattle.joint_machine.specs.Draws.{counting}
use Rattle.joint_machine.specs.Sides.{Side, SideRules, Making, MayDraw, AddsLawful, AddsInTurn}
use Rattle.joint_machine.specs.Told.{Told}
use Rattle.side_tests.specs.Drives.{IsCounted}

-- so a call may draw
pub counted-may : {S : Type 0} (r : SideRules S) (s : Side S) (count : ℕ) (t : Thread) (o : Op) → r.takes 8 t → IsCounted s count → MayDraw r counting count s t o
counted-may r s count t o takes k = record { takes = subst (λ n. r.takes n t) (sym k.2) takes; below = k.0; room = k.1; bare = tt; targets = λ m may. tt }

-- a call that draws once
pub counted-once : {S : Type 0} (r : SideRules S) (old new : Side S) (before after : ℕ) (m : Made) (told : Told)
    → AddsLawful r counting before after old new m told → IsCounted old before → IsCounted new after
counted-once r old new before after m told a k = (a.draws.below, a.draws.room, a.threads ∙ k.2)

-- a refusal changes nothing
pub counted-same : {S : Type 0} (old new : Side S) (before after : ℕ) → (new ≡ old) × (after ≡ before) → IsCounted old before → IsCounted new after
counted-same old new before after e k = subst (λ n. IsCounted new n) (sym e.1) (subst (λ z. IsCounted z before) (sym e.0) k)

-- a call that draws in turn
pub counted-in-turn : {S : Type 0} (r : SideRules S) (ms : List Making) (old new : Side S) (before after : ℕ)
    → AddsInTurn r counting before after old new ms → IsCounted old before → IsCounted new after
counted-in-turn r [] old new before after a k = counted-same old new before after (a.1, a.0) k
counted-in-turn r (m ∷ ms) old new before after a k = counted-in-turn r ms a.1 new a.0 after a.3 (counted-once r old a.1 before a.0 m.made m.told a.2 k)
