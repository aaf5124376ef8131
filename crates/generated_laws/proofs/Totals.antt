-- Sums over lists, and that a sum over all is the sum over the threads of what is each thread's.
use Rattle.std.proofs.Common.{◌≡◌, ℕ, zero, suc, ◌+◌, ◌≤◌, Bool, true, false, List, [], ◌∷◌, ◌++◌, refl, arith}
use Rattle.std.specs.Prelude.{filter, if◌then◌else◌}
use Rattle.joint_machine.specs.declared.names.Thread.{Thread}
use Rattle.joint_machine.specs.declared.names.Thread.TheVariants.{M, P, C}
use Rattle.joint_machine.specs.Lines.{IsThread}
use Rattle.joint_machine.specs.PeerReplay.{is_thread}

-- each of a list
abbrev pub Each : {X : Type 0} → (X → Type 0) → List X → Type 0
Each Q [] = Unit {0}
Each Q (x ∷ xs) = Q x × Each Q xs

pub each-append : {X : Type 0} (Q : X → Type 0) (xs ys : List X) → Each Q (xs ++ ys) → Each Q xs × Each Q ys
each-append Q [] ys e = (tt, e)
each-append Q (x ∷ xs) ys e = (let r = each-append Q xs ys e.1 in ((e.0, r.0), r.1))

pub each-join : {X : Type 0} (Q : X → Type 0) (xs ys : List X) → Each Q xs → Each Q ys → Each Q (xs ++ ys)
each-join Q [] ys a b = b
each-join Q (x ∷ xs) ys a b = (a.0, each-join Q xs ys a.1 b)

pub each-filter : {X : Type 0} (Q : X → Type 0) (p : X → Bool) (xs : List X) → Each Q xs → Each Q (filter p xs)
each-filter Q p [] e = tt
each-filter Q p (x ∷ xs) e = by (p x) (each-filter Q p xs e.1)
  where
    by : (b : Bool) → Each Q (filter p xs) → Each Q (if b then x ∷ filter p xs else filter p xs)
    by true r = (e.0, r)
    by false r = r

-- the sum of what each of a list counts
abbrev pub total : {X : Type 0} → (X → ℕ) → List X → ℕ
total f [] = 0
total f (x ∷ xs) = f x + total f xs

pub total-append : {X : Type 0} (f : X → ℕ) (xs ys : List X) → total f (xs ++ ys) ≡ total f xs + total f ys
total-append f [] ys = omega arith
total-append f (x ∷ xs) ys = (let r = total-append f xs ys in omega (arith, r))

pub total-same : {X : Type 0} (f g : X → ℕ) (xs : List X) → ((x : X) → f x ≡ g x) → total f xs ≡ total g xs
total-same f g [] e = refl
total-same f g (x ∷ xs) e = (let a = e x in let r = total-same f g xs e in omega (arith, a, r))

pub total-plus : {X : Type 0} (f g : X → ℕ) (xs : List X) → total (λ x. f x + g x) xs ≡ total f xs + total g xs
total-plus f g [] = refl
total-plus f g (x ∷ xs) = (let r = total-plus f g xs in omega (arith, r))

pub total-le : {X : Type 0} (f g : X → ℕ) (xs : List X) → ((x : X) → f x ≤ g x) → total f xs ≤ total g xs
total-le f g [] e = omega arith
total-le f g (x ∷ xs) e = (let a = e x in let r = total-le f g xs e in omega (arith, a, r))

-- all threads that a script can have
abbrev pub all_threads : List Thread
all_threads = C ∷ M 1 ∷ M 2 ∷ M 3 ∷ M 4 ∷ M 5 ∷ M 6 ∷ M 7 ∷ M 8 ∷ P 1 ∷ P 2 ∷ P 3 ∷ P 4 ∷ P 5 ∷ P 6 ∷ P 7 ∷ P 8 ∷ []

-- each thread that a script can have stands there once
pub once : (c : Thread) → IsThread c → (p : ℕ) → total (λ t. if is_thread t c then p else 0) all_threads ≡ p
once C w p = omega arith
once (M zero) w p = absurd (omega (arith, w.0))
once (M (suc zero)) w p = omega arith
once (M (suc (suc zero))) w p = omega arith
once (M (suc (suc (suc zero)))) w p = omega arith
once (M (suc (suc (suc (suc zero))))) w p = omega arith
once (M (suc (suc (suc (suc (suc zero)))))) w p = omega arith
once (M (suc (suc (suc (suc (suc (suc zero))))))) w p = omega arith
once (M (suc (suc (suc (suc (suc (suc (suc zero)))))))) w p = omega arith
once (M (suc (suc (suc (suc (suc (suc (suc (suc zero))))))))) w p = omega arith
once (M (suc (suc (suc (suc (suc (suc (suc (suc (suc n)))))))))) w p = absurd (omega (arith, w.1))
once (P zero) w p = absurd (omega (arith, w.0))
once (P (suc zero)) w p = omega arith
once (P (suc (suc zero))) w p = omega arith
once (P (suc (suc (suc zero)))) w p = omega arith
once (P (suc (suc (suc (suc zero))))) w p = omega arith
once (P (suc (suc (suc (suc (suc zero)))))) w p = omega arith
once (P (suc (suc (suc (suc (suc (suc zero))))))) w p = omega arith
once (P (suc (suc (suc (suc (suc (suc (suc zero)))))))) w p = omega arith
once (P (suc (suc (suc (suc (suc (suc (suc (suc zero))))))))) w p = omega arith
once (P (suc (suc (suc (suc (suc (suc (suc (suc (suc n)))))))))) w p = absurd (omega (arith, w.1))

module _ {X : Type 0} (by : X → Thread) (f : X → ℕ) where
  one-more : (x : X) (xs : List X) (t : Thread) → total f (filter (λ y. is_thread t (by y)) (x ∷ xs)) ≡ (if is_thread t (by x) then f x else 0) + total f (filter (λ y. is_thread t (by y)) xs)
  one-more x xs t = at (is_thread t (by x))
    where
      at : (b : Bool) → total f (if b then x ∷ filter (λ y. is_thread t (by y)) xs else filter (λ y. is_thread t (by y)) xs) ≡ (if b then f x else 0) + total f (filter (λ y. is_thread t (by y)) xs)
      at true = refl
      at false = omega arith

  -- the sum over all is the sum of those of the threads
  pub by_threads : (xs : List X) → Each (λ x. IsThread (by x)) xs → total f xs ≡ total (λ t. total f (filter (λ y. is_thread t (by y)) xs)) all_threads
  by_threads [] e = refl
  by_threads (x ∷ xs) e =
      let first = once (by x) e.0 (f x) in
      let rest = by_threads xs e.1 in
      let both = total-plus (λ t. if is_thread t (by x) then f x else 0) (λ t. total f (filter (λ y. is_thread t (by y)) xs)) all_threads in
      let same = total-same (λ t. total f (filter (λ y. is_thread t (by y)) (x ∷ xs)))
      (λ t. (if is_thread t (by x) then f x else 0) + total f (filter (λ y. is_thread t (by y)) xs)) all_threads (one-more x xs) in
      omega (arith, first, rest, both, same)
