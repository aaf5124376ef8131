-- The answers are those of the restores, so no candidate is kept, and both rows of the dead part are freed.
use Rattle.std.proofs.Common.{◌≡◌, ℕ, List, [], ◌∷◌, Some, refl, subst, slice_get, nat_eq}
use Rattle.joint_machine.specs.Cycles.{IsAnsweredAlive}
use Rattle.joint_machine.specs.Managed.{OpenCycle}
use Rattle.std.specs.List.{Contains}
use Rattle.computed_histories.proofs.Reaching.{member}
use Rattle.computed_histories.proofs.RowTests.{answered}
use Rattle.computed_histories.proofs.Telling.{refuted, same}
use Rattle.worked_histories.proofs.histories.resolution_keeps_the_answered.Goals as goal
use Rattle.joint_machine.specs.Told.{said_alive, said_cleared, Answer}

none_kept : (cycle : OpenCycle) (alive : List Answer) → cycle.candidates ≡ 1 ∷ 2 ∷ [] → alive ≡ said_cleared ∷ said_cleared ∷ [] → (x : ℕ) → IsAnsweredAlive cycle.candidates alive x → ⊥
none_kept cycle alive p q x a = refuted (answered (1 ∷ 2 ∷ []) (said_cleared ∷ said_cleared ∷ []) x) refl
    (a.0, subst (λ l. slice_get l a.0 ≡ Some x) p a.1, (a.2.0, subst (λ l. slice_get l a.0 ≡ Some (said_alive a.2.0)) q a.2.1))

the_cycle : OpenCycle
the_cycle = record { number = 2; candidates = 1 ∷ 2 ∷ []; dead = 1 ∷ 2 ∷ [] }

pub returns : goal.returns
unfolding the_cycle
returns c alive freed reply h =
    let m = h.lawful.allowed in
    let e : Some the_cycle ≡ Some m.cycle = m.open_cycle.0 in
    let is_it : the_cycle ≡ m.cycle = cc in
    let none = none_kept m.cycle alive (subst (λ (k : OpenCycle). k.candidates ≡ 1 ∷ 2 ∷ []) is_it refl) h.order.2 in
    let dead = λ (x : ℕ) (d : Contains (1 ∷ 2 ∷ []) x). subst (λ (k : OpenCycle). Contains k.dead x) is_it d in (
      h.order.2,
      (m.resolution.frees 1).1 (dead 1 ((member nat_eq same (1 ∷ 2 ∷ []) 1).holds refl), λ k. none k.0 k.1),
      (m.resolution.frees 2).1 (dead 2 ((member nat_eq same (1 ∷ 2 ∷ []) 2).holds refl), λ k. none k.0 k.1),
    )
