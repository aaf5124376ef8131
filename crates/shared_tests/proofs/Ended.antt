-- What the threads ended with: each its own caller, and the driver's is idle. So all callers together are those that
-- were given out.
use Rattle.std.proofs.Common.{◌≡◌, ℕ, zero, suc, ◌<◌, List, [], ◌∷◌, length, map, Result, Ok, refl, sym, ◌∙◌, ap, subst, arith}
use Rattle.std.specs.Prelude.{All, slice_index_or}
use Rattle.std.proofs.lemmas.List.Elements.{All-nil, All-cons}
use Rattle.joint_history.specs.Callers.{Pass}
use Rattle.joint_history.specs.Desks.{Waiting}
use Rattle.joint_history.specs.Ending.{HasAll, HasIdleDriver, threads_of}
use Rattle.joint_history.proofs.Giving.{has_all_same}
use Rattle.shared_tests.specs.Starts.{EndsIdle}

-- each caller is that of its job's thread
abbrev AllEnded : List Pass → List Pass → Type 0
AllEnded [] [] = Unit {0}
AllEnded [] (p ∷ ps) = ⊥
AllEnded (j ∷ js) [] = ⊥
AllEnded (j ∷ js) (p ∷ ps) = ((p.thread ≡ j.thread) × HasIdleDriver p) × AllEnded js ps

ended : (E : Type 0) (jobs callers : List Pass) → length callers ≡ length jobs
    → ((i : ℕ) (d : Pass) (e : Result Pass E) → i < length jobs → EndsIdle (slice_index_or jobs i d) (slice_index_or (map (λ p. Ok p) callers) i e)) → AllEnded jobs callers
ended E [] [] n each = tt
ended E [] (p ∷ ps) n each = omega arith
ended E (j ∷ js) [] n each = omega arith
ended E (j ∷ js) (p ∷ ps) n each = (each zero j (Ok p) (omega arith), ended E js ps (omega arith) (λ i d e l. each (suc i) d e (omega (arith, l))))

same_length : (E : Type 0) (ps : List Pass) → length ps ≡ length (map {B = Result Pass E} (λ p. Ok p) ps)
same_length E [] = refl
same_length E (p ∷ ps) = let r = same_length E ps in omega arith

pub all_ended : {E : Type 0} (jobs callers : List Pass) (ends : List (Result Pass E)) → map (λ p. Ok p) callers ≡ ends → length ends ≡ length jobs
    → ((i : ℕ) (d : Pass) (e : Result Pass E) → i < length jobs → EndsIdle (slice_index_or jobs i d) (slice_index_or ends i e)) → AllEnded jobs callers
all_ended {E} jobs callers ends is n each =
    ended E jobs callers (same_length E callers ∙ (ap length is ∙ n))
    (λ i d e l. subst (λ (rs : List (Result Pass E)). EndsIdle (slice_index_or jobs i d) (slice_index_or rs i e)) (sym is) (each i d e l))

same_threads : (jobs callers : List Pass) → AllEnded jobs callers → threads_of jobs ≡ threads_of callers
same_threads [] [] r = refl
same_threads [] (p ∷ ps) r = absurd r
same_threads (j ∷ js) [] r = absurd r
same_threads (j ∷ js) (p ∷ ps) r = let a = sym r.0.0 in let b = same_threads js ps r.1 in λ i. a i ∷ b i

pub ended_have_all : (d : Waiting) (jobs callers : List Pass) → AllEnded jobs callers → HasAll d jobs → HasAll d callers
ended_have_all d jobs callers r all = has_all_same d jobs callers (same_threads jobs callers r) all

pub ended_are_idle : (jobs callers : List Pass) → AllEnded jobs callers → All HasIdleDriver callers
ended_are_idle jobs [] r = All-nil HasIdleDriver
ended_are_idle [] (p ∷ ps) r = absurd r
ended_are_idle (j ∷ js) (p ∷ ps) r = All-cons HasIdleDriver p ps r.0.1 (ended_are_idle js ps r.1)
