-- Answers of restores, one candidate more; and what a list of them has once each was given.
use Rattle.std.proofs.Common.{◌≡◌, ℕ, zero, suc, ◌+◌, arith, replicate, Bool, true, false, List, [], ◌∷◌, ◌++◌, map, length, Option, Some, None, refl, sym, ap, ◌∙◌, if◌then◌else◌, slice_get}
use Rattle.std.specs.List.{All}
use Rattle.std.specs.Option.{option_map}
use Rattle.std.proofs.lemmas.List.Elements.{All-nil, All-cons, All-head, All-tail}
use Rattle.joint_machine.specs.Heaps.{numbered_set}
use Rattle.joint_machine.specs.Joint.{Joint}
use Rattle.joint_machine.specs.Managed.{Managed, handle_of, renewed}
use Rattle.joint_machine.specs.Run.{answered_for, is_that_handle}
use Rattle.joint_machine.specs.Told.{Answer, said_alive, said_cleared}
use Rattle.joint_machine.proofs.Numbered.{numbered_set-length}
use Rattle.joint_replay.specs.declared.answers.Said.{Said}
use Rattle.joint_replay.specs.Answers.{said_as, answers_as, AreAnswered, IsGiven, IsMissing, given_in, put_where, handle_in, renew_one, renewed_by}

put-nil : (b : Bool) (n : ℕ) (a : Answer) → [] ≡ put_where b [] n a
put-nil true n a = refl
put-nil false n a = refl

put-first : (b : Bool) (x : Option Answer) (xs : List (Option Answer)) (a : Answer) → (if b then Some a else x) ∷ xs ≡ put_where b (x ∷ xs) 0 a
put-first true x xs a = refl
put-first false x xs a = refl

put-later : (b : Bool) (y : Option Answer) (xs : List (Option Answer)) (n : ℕ) (a : Answer) → y ∷ put_where b xs n a ≡ put_where b (y ∷ xs) (suc n) a
put-later true y xs n a = refl
put-later false y xs n a = refl

-- one candidate more has had the answer, if it holds the handle
pub answered-more : (s : Managed) (h : ℕ) (a : Answer) (ms : List ℕ) (m : ℕ) (xs : List (Option Answer))
    → answered_for s h a (ms ++ m ∷ []) xs ≡ put_where (is_that_handle (handle_of s m) h) (answered_for s h a ms xs) (length ms) a
answered-more s h a [] m [] = put-nil (is_that_handle (handle_of s m) h) 0 a
answered-more s h a [] m (x ∷ xs) = put-first (is_that_handle (handle_of s m) h) x xs a
answered-more s h a (k ∷ ms) m [] = put-nil (is_that_handle (handle_of s m) h) (suc (length ms)) a
answered-more s h a (k ∷ ms) m (x ∷ xs) =
    let y = if is_that_handle (handle_of s k) h then Some a else x in
    ap (λ l. y ∷ l) (answered-more s h a ms m xs) ∙ put-later (is_that_handle (handle_of s m) h) y (answered_for s h a ms xs) (length ms) a

-- one candidate more holds its new handle
pub renewed-more : (held : List (Option ℕ)) (ms : List ℕ) (m : ℕ) (xs : List (Option Answer))
    → renewed_by held (ms ++ m ∷ []) xs ≡ renew_one (renewed_by held ms xs) m (handle_in (slice_get xs (length ms)))
renewed-more held [] m [] = refl
renewed-more held [] m (x ∷ xs) = refl
renewed-more held (k ∷ ms) m [] = refl
renewed-more held (k ∷ ms) m (x ∷ xs) = renewed-more (renew_one held k (handle_in (Some x))) ms m xs

pub renewed-length : (held : List (Option ℕ)) (ms : List ℕ) (xs : List (Option Answer)) → length (renewed_by held ms xs) ≡ length held
renewed-length held [] xs = refl
renewed-length held (m ∷ ms) [] = refl
renewed-length held (m ∷ ms) (x ∷ xs) = renewed-length (renew_one held m (handle_in (Some x))) ms xs ∙ one (handle_in (Some x))
  where
    one : (o : Option ℕ) → length (renew_one held m o) ≡ length held
    one None = refl
    one (Some h) = numbered_set-length held m (Some h)

-- what they hold then is what the resolution says
pub renewed-all : (held : List (Option ℕ)) (ms : List ℕ) (alive : List Answer) → renewed_by held ms (map Some alive) ≡ renewed held ms alive
renewed-all held [] alive = refl
renewed-all held (m ∷ ms) [] = refl
renewed-all held (m ∷ ms) (said_alive h ∷ alive) = renewed-all (numbered_set held m (Some h)) ms alive
renewed-all held (m ∷ ms) (said_cleared ∷ alive) = renewed-all held ms alive

-- each was given
pub given-all : (xs : List (Option Said)) → All IsGiven xs → answers_as xs ≡ map Some (given_in (answers_as xs))
given-all [] g = refl
given-all (None ∷ xs) g = absurd (All-head IsGiven None xs g)
given-all (Some a ∷ xs) g = ap (λ l. Some (said_as a) ∷ l) (given-all xs (All-tail IsGiven (Some a) xs g))

pub all-given : (xs : List (Option Said)) (alive : List Answer) → answers_as xs ≡ map Some alive → All IsGiven xs
all-given [] alive e = All-nil IsGiven
all-given (None ∷ xs) [] e = cc
all-given (None ∷ xs) (a ∷ alive) e = cc
all-given (Some x ∷ xs) [] e = cc
all-given (Some x ∷ xs) (a ∷ alive) e = (let rest : answers_as xs ≡ map Some alive = cc in All-cons IsGiven (Some x) xs tt (all-given xs alive rest))

given-again : (alive : List Answer) → given_in (map Some alive) ≡ alive
given-again [] = refl
given-again (a ∷ alive) = ap (λ l. a ∷ l) (given-again alive)

pub all-answered : (j : Joint) → AreAnswered j → j.answers ≡ map Some (given_in j.answers)
all-answered j w = w.1 ∙ ap (map Some) (sym (ap given_in w.1 ∙ given-again w.0))

-- one more has no answer yet
missing-next : (xs : List (Option Said)) (n : ℕ) → answers_as xs ≡ replicate n None → answers_as (xs ++ None ∷ []) ≡ replicate (suc n) None
missing-next [] zero e = refl
missing-next [] (suc n) e = cc
missing-next (x ∷ xs) zero e = cc
missing-next (x ∷ xs) (suc n) e = (let head : option_map said_as x ≡ None = cc in let tail : answers_as xs ≡ replicate n None = cc in λ i. head i ∷ missing-next xs n tail i)

pub missing-more : (xs : List (Option Said)) (n : ℕ) → answers_as xs ≡ replicate n None → answers_as (xs ++ None ∷ []) ≡ replicate (n + 1) None
missing-more xs n e = (let on : suc n ≡ n + 1 = omega arith in missing-next xs n e ∙ ap (λ k. replicate k None) on)

-- none was
pub missing-all : (xs : List (Option Said)) → All IsMissing xs → All (λ a. a ≡ None) (answers_as xs)
missing-all [] g = All-nil (λ a. a ≡ None)
missing-all (None ∷ xs) g = All-cons (λ a. a ≡ None) None (answers_as xs) refl (missing-all xs (All-tail IsMissing None xs g))
missing-all (Some a ∷ xs) g = absurd (All-head IsMissing (Some a) xs g)

pub all-missing : (xs : List (Option Said)) → All (λ a. a ≡ None) (answers_as xs) → All IsMissing xs
all-missing [] g = All-nil IsMissing
all-missing (None ∷ xs) g = All-cons IsMissing None xs tt (all-missing xs (All-tail (λ a. a ≡ None) None (answers_as xs) g))
all-missing (Some a ∷ xs) g = absurd (some-none (All-head (λ a. a ≡ None) (Some (said_as a)) (answers_as xs) g))
  where
    some-none : Some (said_as a) ≡ None → ⊥
    some-none e = cc
