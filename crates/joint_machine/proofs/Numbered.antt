-- Lists whose elements have the numbers from 1 on, and lists of slots: what stands where after a write or a push. Each
-- is an induction on the list.
use Rattle.std.proofs.Common.{◌≡◌, ◌≢◌, ℕ, zero, suc, ◌+◌, ◌<◌, ◌≤◌, ◌⊎◌, inl, inr, List, [], ◌∷◌, ◌++◌, length, Option, Some, None, set, get_or, replicate, refl, ap, arith, sym, ◌∙◌}
use Rattle.std.specs.Prelude.{Contains, slice_get}
use Rattle.std.proofs.Math.ListN.{length-set}
use Rattle.std.proofs.lemmas.Option.{slice_get_within, slice_get_past, slice_get-get_or}
use Rattle.joint_machine.specs.Heaps.{numbered_at, numbered_set, slot}
use Rattle.joint_machine.proofs.Deciding.{none_some}
use Rattle.joint_machine.proofs.Members.{Contains-at, at-Contains}

-- what a list has after a write it had before, or it is what was written
pub set-at_cases : {X : Type 0} (xs : List X) (i k : ℕ) (y z : X) → slice_get (set xs i y) k ≡ Some z → (slice_get xs k ≡ Some z) ⊎ (y ≡ z)
set-at_cases [] i k y z e = inl e
set-at_cases (x ∷ xs) zero zero y z e = inr (let f : y ≡ z = cc in f)
set-at_cases (x ∷ xs) zero (suc k) y z e = inl e
set-at_cases (x ∷ xs) (suc i) zero y z e = inl e
set-at_cases (x ∷ xs) (suc i) (suc k) y z e = set-at_cases xs i k y z e

pub Contains-set_cases : {X : Type 0} (xs : List X) (i : ℕ) (y z : X) → Contains (set xs i y) z → Contains xs z ⊎ (y ≡ z)
Contains-set_cases xs i y z h =
    let p = at-Contains (set xs i y) z h in
    elim (set-at_cases xs i p.0 y z p.1) [ inl w ↦ inl (Contains-at xs p.0 z w) | inr w ↦ inr w ]

pub set-at_same : {X : Type 0} (xs : List X) (i : ℕ) (y z : X) → slice_get (set xs i y) i ≡ Some z → y ≡ z
set-at_same [] i y z e = cc
set-at_same (x ∷ xs) zero y z e = cc
set-at_same (x ∷ xs) (suc i) y z e = set-at_same xs i y z e

pub set-at_other : {X : Type 0} (xs : List X) (i k : ℕ) (y : X) → k ≢ i → slice_get (set xs i y) k ≡ slice_get xs k
set-at_other [] i k y n = refl
set-at_other (x ∷ xs) zero zero y n = absurd (n refl)
set-at_other (x ∷ xs) zero (suc k) y n = refl
set-at_other (x ∷ xs) (suc i) zero y n = refl
set-at_other (x ∷ xs) (suc i) (suc k) y n = set-at_other xs i k y (λ e. n (ap suc e))

pub push-at_cases : {X : Type 0} (xs : List X) (y : X) (k : ℕ) (z : X) → slice_get (xs ++ y ∷ []) k ≡ Some z → (slice_get xs k ≡ Some z) ⊎ ((k ≡ length xs) × (y ≡ z))
push-at_cases [] y zero z e = inr (refl, let f : y ≡ z = cc in f)
push-at_cases [] y (suc k) z e = inl e
push-at_cases (x ∷ xs) y zero z e = inl e
push-at_cases (x ∷ xs) y (suc k) z e = elim (push-at_cases xs y k z e) [ inl w ↦ inl w | inr w ↦ inr (omega (arith, w.0), w.1) ]

pub push-at_old : {X : Type 0} (xs : List X) (y : X) (k : ℕ) → k < length xs → slice_get (xs ++ y ∷ []) k ≡ slice_get xs k
push-at_old [] y k l = absurd (omega arith)
push-at_old (x ∷ xs) y zero l = refl
push-at_old (x ∷ xs) y (suc k) l = push-at_old xs y k (omega arith)

pub push-at_new : {X : Type 0} (xs : List X) (y : X) → slice_get (xs ++ y ∷ []) (length xs) ≡ Some y
push-at_new [] y = refl
push-at_new (x ∷ xs) y = push-at_new xs y

-- the same by numbers
pub numbered-within : {X : Type 0} (xs : List X) (n : ℕ) (x : X) → numbered_at xs n ≡ Some x → (1 ≤ n) × (n ≤ length xs)
numbered-within xs zero x e = absurd (none_some x e)
numbered-within xs (suc k) x e = (omega arith, omega (arith, slice_get_within xs k x e))

pub numbered-made : {X : Type 0} (xs : List X) (n : ℕ) → 1 ≤ n → n ≤ length xs → (x : X) × (numbered_at xs n ≡ Some x)
numbered-made xs zero p q = absurd (omega arith)
numbered-made [] (suc k) p q = absurd (omega arith)
numbered-made (x ∷ xs) (suc k) p q = (get_or (x ∷ xs) k x, slice_get-get_or (x ∷ xs) k x (omega arith))

pub numbered-past : {X : Type 0} (xs : List X) (n : ℕ) → length xs < n → numbered_at xs n ≡ None
numbered-past xs zero p = refl
numbered-past xs (suc k) p = slice_get_past xs k (omega arith)

pub numbered-push_cases : {X : Type 0} (xs : List X) (y : X) (n : ℕ) (z : X) → numbered_at (xs ++ y ∷ []) n ≡ Some z → (numbered_at xs n ≡ Some z) ⊎ ((n ≡ length xs + 1) × (y ≡ z))
numbered-push_cases xs y zero z e = inl e
numbered-push_cases xs y (suc k) z e = elim (push-at_cases xs y k z e) [ inl w ↦ inl w | inr w ↦ inr (omega (arith, w.0), w.1) ]

pub numbered-push_old : {X : Type 0} (xs : List X) (y : X) (n : ℕ) → n ≤ length xs → numbered_at (xs ++ y ∷ []) n ≡ numbered_at xs n
numbered-push_old xs y zero l = refl
numbered-push_old xs y (suc k) l = push-at_old xs y k (omega arith)

pub numbered-push_new : {X : Type 0} (xs : List X) (y : X) → numbered_at (xs ++ y ∷ []) (length xs + 1) ≡ Some y
numbered-push_new xs y = let next : length xs + 1 ≡ suc (length xs) = omega arith in rw next (push-at_new xs y)

pub numbered_set-length : {X : Type 0} (xs : List X) (n : ℕ) (x : X) → length (numbered_set xs n x) ≡ length xs
numbered_set-length xs zero x = refl
numbered_set-length xs (suc i) x = length-set xs i x

pub numbered_set-same : {X : Type 0} (xs : List X) (n : ℕ) (y z : X) → numbered_at (numbered_set xs n y) n ≡ Some z → y ≡ z
numbered_set-same xs zero y z e = absurd (none_some z e)
numbered_set-same xs (suc i) y z e = set-at_same xs i y z e

pub set-at_here : {X : Type 0} (xs : List X) (i : ℕ) (y : X) → i < length xs → slice_get (set xs i y) i ≡ Some y
set-at_here [] i y l = absurd (omega arith)
set-at_here (x ∷ xs) zero y l = refl
set-at_here (x ∷ xs) (suc i) y l = set-at_here xs i y (omega arith)

pub numbered_set-here : {X : Type 0} (xs : List X) (n : ℕ) (y : X) → 1 ≤ n → n ≤ length xs → numbered_at (numbered_set xs n y) n ≡ Some y
numbered_set-here xs zero y p q = absurd (omega arith)
numbered_set-here xs (suc i) y p q = set-at_here xs i y (omega arith)

pub numbered_set-other : {X : Type 0} (xs : List X) (n k : ℕ) (y : X) → k ≢ n → numbered_at (numbered_set xs n y) k ≡ numbered_at xs k
numbered_set-other xs zero k y ne = refl
numbered_set-other xs (suc i) zero y ne = refl
numbered_set-other xs (suc i) (suc k) y ne = set-at_other xs i k y (λ e. ne (ap suc e))

-- a slot that names something
pub slot-named : {X : Type 0} (o : Option (Option X)) (x : X) → elim o [ None ↦ None | Some y ↦ y ] ≡ Some x → o ≡ Some (Some x)
slot-named None x e = cc
slot-named (Some y) x e = ap Some e

pub slot-Contains : {X : Type 0} (xs : List (Option X)) (i : ℕ) (x : X) → slot xs i ≡ Some x → Contains xs (Some x)
slot-Contains xs i x e = Contains-at xs i (Some x) (slot-named (slice_get xs i) x e)

-- empty slots name nothing
replicate-none_at : {X : Type 0} (n k : ℕ) (x : X) → slice_get (replicate n None) k ≡ Some (Some x) → ⊥
replicate-none_at zero k x e = cc
replicate-none_at (suc n) zero x e = cc
replicate-none_at (suc n) (suc k) x e = replicate-none_at n k x e

pub replicate-none : {X : Type 0} (n : ℕ) (x : X) → Contains (replicate n None) (Some x) → ⊥
replicate-none n x h = (let p = at-Contains (replicate n None) (Some x) h in replicate-none_at n p.0 x p.1)

-- what a slot holds, as an element of the list
pub slot-at : (xs : List (Option ℕ)) (i : ℕ) (r : Option ℕ) → i < length xs → slot xs i ≡ r → slice_get xs i ≡ Some r
slot-at xs i r l e =
    let at : slice_get xs i ≡ Some (get_or xs i None) = slice_get-get_or xs i None l in
    at ∙ ap (λ z. Some z) (ap (λ o. elim o [ None ↦ None | Some z ↦ z ]) (sym at) ∙ e)
