-- What the threads of a race begin and end with. A caller that a desk gave has made nothing, so it is ready; and a
-- thread ends with its own caller, so each thread's caller still waits at the desk or is among those that are given
-- back.
use Rattle.std.proofs.Common.{◌≡◌, ℕ, zero, suc, ◌<◌, ◌≤◌, List, [], ◌∷◌, ◌++◌, length, map, Option, Some, Result, Ok, refl, sym, ◌∙◌, ap, subst, arith}
use Rattle.std.specs.Prelude.{All, option_to_list, slice_index_or}
use Rattle.std.proofs.lemmas.List.Elements.{All-nil, All-cons}
use Rattle.joint_machine.specs.declared.names.Thread.{Thread}
use Rattle.joint_machine.specs.declared.names.Thread.TheVariants.{M, P, C}
use Rattle.joint_machine.specs.HistoryLines.{caller_line}
use Rattle.joint_machine.specs.Lines.{IsDriver, IsThread}
use Rattle.order_table.specs.declared.views.View.{View}
use Rattle.order_table.specs.Facts.{line_entries}
use Rattle.joint_history.specs.Callers.{KnowsNothing, Pass, last_index, own, own_in}
use Rattle.joint_history.specs.Desks.{Waiting}
use Rattle.joint_history.specs.Ending.{HasAll, HasIdleDriver, threads_of}
use Rattle.joint_history.proofs.Giving.{has_all_same, one_given}
use Rattle.bridge_cycle.proofs.Refusals.{idle_first}
use Rattle.weak_reads.specs.Racing.{EndsIdle, IsReady}

-- who knows nothing has made nothing
no_line : (t : Thread) (v : View) → KnowsNothing v → last_index (own_in t v) ≤ 1
no_line t v none = subst (λ es. last_index (line_entries es) ≤ 1) (sym (none (caller_line t))) (omega arith)

pub given_is_ready : (p : Pass) → IsThread p.thread → KnowsNothing p.view → IsReady p
given_is_ready p is none = (is, no_line p.thread p.view none, idle_first p none)

-- the driver has its caller's entries, and its caller is that of c
own_of_driver : (t : Thread) (v : View) → IsDriver t → own_in C v ≡ own_in t v
own_of_driver (M n) v is = absurd is
own_of_driver (P n) v is = absurd is
own_of_driver C v is = refl

pub drivers_line : (p : Pass) (v : View) → v ≡ p.view → IsDriver p.thread → last_index (own p) ≤ 1 → last_index (own_in C v) ≤ 1
drivers_line p v e is l = subst (λ w. last_index (own_in C w) ≤ 1) (sym e) (subst (λ es. last_index es ≤ 1) (sym (own_of_driver p.thread p.view is)) l)

pub is_of_c : (t : Thread) → IsDriver t → C ≡ t
is_of_c (M n) is = absurd is
is_of_c (P n) is = absurd is
is_of_c C is = refl

same_last : (ps : List Pass) (p q : Pass) → p.thread ≡ q.thread → threads_of (ps ++ p ∷ []) ≡ threads_of (ps ++ q ∷ [])
same_last [] p q e = ap (λ t. t ∷ []) e
same_last (r ∷ ps) p q e = ap (λ ts. r.thread ∷ ts) (same_last ps p q e)

-- one that a desk gave, as it stands later
pub given_goes_on : (old new : Waiting) (r : Option Pass) (p q : Pass) (ps : List Pass) → r ≡ Some p
    → ((qs : List Pass) → HasAll old qs → HasAll new (option_to_list r ++ qs)) → q.thread ≡ p.thread → HasAll old ps → HasAll new (ps ++ q ∷ [])
given_goes_on old new r p q ps e gives at all = has_all_same new (ps ++ p ∷ []) (ps ++ q ∷ []) (same_last ps p q (sym at)) (one_given old new r p ps e gives all)

-- each caller is that of its job's thread
abbrev AllEnded : List Pass → List Pass → Type 0
AllEnded [] [] = Unit {0}
AllEnded [] (p ∷ ps) = ⊥
AllEnded (j ∷ js) [] = ⊥
AllEnded (j ∷ js) (p ∷ ps) = ((p.thread ≡ j.thread) × HasIdleDriver p) × AllEnded js ps

ended : (E : Type 0) (jobs callers : List Pass) → length callers ≡ length jobs
    → ((i : ℕ) (d : Pass) (e : Result Pass E) → i < length jobs → EndsIdle (slice_index_or jobs i d) (slice_index_or (map (λ p. Ok p) callers) i e)) → AllEnded jobs callers
ended E [] [] n each = tt
ended E [] (p ∷ ps) n each = omega arith
ended E (j ∷ js) [] n each = omega arith
ended E (j ∷ js) (p ∷ ps) n each = let k = each zero j (Ok p) (omega arith) in ((k.0.0, k.1), ended E js ps (omega arith) (λ i d e l. each (suc i) d e (omega (arith, l))))

same_length : (E : Type 0) (ps : List Pass) → length ps ≡ length (map {B = Result Pass E} (λ p. Ok p) ps)
same_length E [] = refl
same_length E (p ∷ ps) = let r = same_length E ps in omega arith

pub all_ended : {E : Type 0} (jobs callers : List Pass) (ends : List (Result Pass E)) → map (λ p. Ok p) callers ≡ ends → length ends ≡ length jobs
    → ((i : ℕ) (d : Pass) (e : Result Pass E) → i < length jobs → EndsIdle (slice_index_or jobs i d) (slice_index_or ends i e)) → AllEnded jobs callers
all_ended {E} jobs callers ends is n each =
    ended E jobs callers (same_length E callers ∙ (ap length is ∙ n))
    (λ i d e l. subst (λ (rs : List (Result Pass E)). EndsIdle (slice_index_or jobs i d) (slice_index_or rs i e)) (sym is) (each i d e l))

same_threads : (jobs callers : List Pass) → AllEnded jobs callers → threads_of jobs ≡ threads_of callers
same_threads [] [] r = refl
same_threads [] (p ∷ ps) r = absurd r
same_threads (j ∷ js) [] r = absurd r
same_threads (j ∷ js) (p ∷ ps) r = let a = sym r.0.0 in let b = same_threads js ps r.1 in λ i. a i ∷ b i

pub ended_have_all : (d : Waiting) (jobs callers : List Pass) → AllEnded jobs callers → HasAll d jobs → HasAll d callers
ended_have_all d jobs callers r all = has_all_same d jobs callers (same_threads jobs callers r) all

pub ended_are_idle : (jobs callers : List Pass) → AllEnded jobs callers → All HasIdleDriver callers
ended_are_idle jobs [] r = All-nil HasIdleDriver
ended_are_idle [] (p ∷ ps) r = absurd r
ended_are_idle (j ∷ js) (p ∷ ps) r = All-cons HasIdleDriver p ps r.0.1 (ended_are_idle js ps r.1)
