-- Callers that know nothing, and a desk that gave three of them out: whoever stands for these three threads later, each
-- thread's caller still waits or is one of them.
use Rattle.std.proofs.Common.{◌≡◌, ◌≤◌, List, [], ◌∷◌, ◌++◌, Option, Some, refl, sym, ap, ◌∙◌, subst, arith}
use Rattle.std.specs.Prelude.{All, option_to_list}
use Rattle.std.proofs.lemmas.List.Elements.{All-cons, All-nil}
use Rattle.joint_machine.specs.HistoryLines.{caller_line}
use Rattle.joint_machine.specs.declared.names.Thread.{Thread}
use Rattle.joint_machine.specs.declared.names.Thread.TheVariants.{M, P, C}
use Rattle.order_table.specs.Facts.{line_entries}
use Rattle.joint_history.specs.Callers.{KnowsNothing, Pass, last_index, own}
use Rattle.joint_history.specs.Desks.{Waiting}
use Rattle.joint_history.specs.Ending.{HasAll, HasIdleDriver, threads_of}
use Rattle.joint_history.specs.Operations.{IsOwnThread}
use Rattle.joint_history.proofs.Giving.{has_all_same}
use Rattle.joint_history.proofs.KnownCallers.{own_idle}
use Rattle.cycle_tests.specs.Starts.{GaveThree}

-- who knows nothing has made nothing
pub starts_below : (p : Pass) → KnowsNothing p.view → last_index (own p) ≤ 1
starts_below p w = let e : last_index (own p) ≡ 0 = ap (λ ks. last_index (line_entries ks)) (w (caller_line p.thread)) in omega (arith, e)

-- a desk gave out one caller more
abbrev Gives : Waiting → Waiting → Option Pass → Type 0
Gives old new r = (ps : List Pass) → HasAll old ps → HasAll new (option_to_list r ++ ps)

pub three_threads : (a b c : Pass) (ps : List Pass) → ps ≡ a ∷ b ∷ c ∷ [] → a.thread ≡ C → b.thread ≡ P 1 → c.thread ≡ M 1 → threads_of ps ≡ C ∷ P 1 ∷ M 1 ∷ []
three_threads a b c ps e at_a at_b at_c = ap threads_of e ∙ ap (λ t. t ∷ b.thread ∷ c.thread ∷ []) at_a ∙ ap (λ t. C ∷ t ∷ c.thread ∷ []) at_b ∙ ap (λ t. C ∷ P 1 ∷ t ∷ []) at_c

next_given : (old new : Waiting) (r : Option Pass) (p : Pass) (ps : List Pass) → Gives old new r → r ≡ Some p → HasAll old ps → HasAll new (p ∷ ps)
next_given old new r p ps gives is all = subst (λ o. HasAll new (option_to_list o ++ ps)) is (gives ps all)

pub three_given : (d0 d1 d2 d3 : Waiting) (r1 r2 r3 : Option Pass) (a b c : Pass) → HasAll d0 [] → Gives d0 d1 r1 → Gives d1 d2 r2 → Gives d2 d3 r3
    → r1 ≡ Some a → r2 ≡ Some b → r3 ≡ Some c → a.thread ≡ M 1 → b.thread ≡ P 1 → c.thread ≡ C → GaveThree d3
three_given d0 d1 d2 d3 r1 r2 r3 a b c all first second third is_a is_b is_c at_a at_b at_c ps e =
    has_all_same d3 (c ∷ b ∷ a ∷ []) ps (three_threads c b a (c ∷ b ∷ a ∷ []) refl at_c at_b at_a ∙ sym e)
    (next_given d2 d3 r3 c (b ∷ a ∷ []) third is_c (next_given d1 d2 r2 b (a ∷ []) second is_b (next_given d0 d1 r1 a [] first is_a all)))

-- of the three callers the driver's is the one that has to be idle
pub three_idle : (a b c : Pass) (ps : List Pass) → ps ≡ a ∷ b ∷ c ∷ [] → HasIdleDriver a → b.thread ≡ P 1 → c.thread ≡ M 1 → All HasIdleDriver ps
three_idle a b c ps e idle at_b at_c = subst (All HasIdleDriver) (sym e)
    (All-cons HasIdleDriver a (b ∷ c ∷ []) idle
    (All-cons HasIdleDriver b (c ∷ []) (own_idle b (subst IsOwnThread (sym at_b) (omega arith, omega arith)))
    (All-cons HasIdleDriver c [] (own_idle c (subst IsOwnThread (sym at_c) (omega arith, omega arith))) (All-nil HasIdleDriver))))
