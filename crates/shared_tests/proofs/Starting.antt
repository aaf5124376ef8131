-- Callers at the start of their threads, and where those have ended: each thread's caller still waits or is one of
-- them.
use Rattle.std.proofs.Common.{◌≡◌, ℕ, suc, ◌<◌, ◌≤◌, List, [], ◌∷◌, ◌++◌, length, Option, Some, refl, sym, ap, ◌∙◌, subst, arith}
use Rattle.std.specs.Prelude.{All, option_to_list, slice_index_or}
use Rattle.std.proofs.lemmas.List.Elements.{All-cons, All-head, All-nil, All-tail}
use Rattle.joint_machine.specs.declared.names.Thread.{Thread}
use Rattle.joint_machine.specs.declared.names.Thread.TheVariants.{M, P, C}
use Rattle.joint_machine.specs.Control.{caller_place}
use Rattle.joint_machine.specs.Lines.{IsPeerThread, IsThread}
use Rattle.joint_history.specs.Callers.{Pass}
use Rattle.joint_history.specs.Desks.{Waiting}
use Rattle.joint_history.specs.Ending.{HasAll, HasIdleDriver, threads_of}
use Rattle.joint_history.specs.Operations.{IsOwnThread}
use Rattle.joint_history.proofs.Giving.{has_all_same, one_given}
use Rattle.joint_history.proofs.KnownCallers.{own_idle}
use Rattle.shared_tests.specs.Starts.{IsStarting}

-- behind the driver's place are those of managed and peer threads, and the last eight are those of peer threads
pub is_own : (t : Thread) → IsThread t → 1 ≤ caller_place t → IsOwnThread t
is_own (M n) is past = is
is_own (P n) is past = is
is_own C is past = absurd (omega (arith, past))

pub is_peer : (t : Thread) → IsThread t → 9 ≤ caller_place t → IsPeerThread t
is_peer (M n) is past = let few = is.1 in absurd (omega (arith, few, past))
is_peer (P n) is past = is
is_peer C is past = absurd (omega (arith, past))

-- callers that went on are of the same threads
abbrev pub HaveGoneOn : List Pass → List Pass → Type 0
HaveGoneOn js rs = (i : ℕ) (d : Pass) → i < length js → (slice_index_or rs i d).thread ≡ (slice_index_or js i d).thread

same_threads : (js rs : List Pass) → length rs ≡ length js → HaveGoneOn js rs → threads_of js ≡ threads_of rs
same_threads [] [] e w = refl
same_threads [] (r ∷ rs) e w = absurd (omega (arith, e))
same_threads (j ∷ js) [] e w = absurd (omega (arith, e))
same_threads (j ∷ js) (r ∷ rs) e w = ap (λ t. t ∷ threads_of js) (sym (w 0 j (omega arith)))
    ∙ ap (λ ts. r.thread ∷ ts) (same_threads js rs (omega (arith, e)) (λ i d l. w (suc i) d (omega (arith, l))))

pub gone_have_all : (d : Waiting) (js rs : List Pass) → length rs ≡ length js → HaveGoneOn js rs → HasAll d js → HasAll d rs
gone_have_all d js rs e w all = has_all_same d js rs (same_threads js rs e w) all

-- none of them is the driver
pub gone_are_idle : (js rs : List Pass) → length rs ≡ length js → HaveGoneOn js rs → All IsStarting js → All HasIdleDriver rs
gone_are_idle [] [] e w all = All-nil HasIdleDriver
gone_are_idle [] (r ∷ rs) e w all = absurd (omega (arith, e))
gone_are_idle (j ∷ js) [] e w all = absurd (omega (arith, e))
gone_are_idle (j ∷ js) (r ∷ rs) e w all =
    All-cons HasIdleDriver r rs (own_idle r (subst IsOwnThread (sym (w 0 j (omega arith))) (All-head IsStarting j js all).0))
    (gone_are_idle js rs (omega (arith, e)) (λ i d l. w (suc i) d (omega (arith, l))) (All-tail IsStarting j js all))

-- one caller was given out, and went on
pub one_goes_on : (old new : Waiting) (r : Option Pass) (a b : Pass) (t : Thread) (ps : List Pass) → HasAll old []
    → ((qs : List Pass) → HasAll old qs → HasAll new (option_to_list r ++ qs)) → r ≡ Some a → a.thread ≡ t → b.thread ≡ t → ps ≡ b ∷ [] → HasAll new ps
one_goes_on old new r a b t ps all gives e at_a at_b is =
    subst (HasAll new) (sym is) (has_all_same new (a ∷ []) (b ∷ []) (ap (λ x. x ∷ []) (at_a ∙ sym at_b)) (one_given old new r a [] e gives all))
