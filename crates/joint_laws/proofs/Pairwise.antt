-- Two lists of one length whose elements are related place by place, and stay so where both, or the one, are written.
use Rattle.std.proofs.Common.{◌≡◌, ℕ, zero, suc, List, [], ◌∷◌, Some, None, set, refl}
use Rattle.std.specs.Prelude.{get_or, slice_get}

abbrev pub Pairwise : {A : Type 0} → (A → A → Type 0) → List A → List A → Type 0
Pairwise R [] [] = Unit {0}
Pairwise R [] (y ∷ ys) = ⊥
Pairwise R (x ∷ xs) [] = ⊥
Pairwise R (x ∷ xs) (y ∷ ys) = R x y × Pairwise R xs ys

module _ {A : Type 0} (R : A → A → Type 0) where
  pub pairwise-same : ((x : A) → R x x) → (xs : List A) → Pairwise R xs xs
  pairwise-same r [] = tt
  pairwise-same r (x ∷ xs) = (r x, pairwise-same r xs)

  pub pairwise-set : (xs ys : List A) (i : ℕ) (x y : A) → Pairwise R xs ys → R x y → Pairwise R (set xs i x) (set ys i y)
  pairwise-set [] [] i x y p r = tt
  pairwise-set [] (b ∷ ys) i x y p r = absurd p
  pairwise-set (a ∷ xs) [] i x y p r = absurd p
  pairwise-set (a ∷ xs) (b ∷ ys) zero x y p r = (r, p.1)
  pairwise-set (a ∷ xs) (b ∷ ys) (suc i) x y p r = (p.0, pairwise-set xs ys i x y p.1 r)

  pub pairwise-left : (xs ys : List A) (i : ℕ) (x : A) → Pairwise R xs ys → ((a b : A) → slice_get xs i ≡ Some a → R a b → R x b) → Pairwise R (set xs i x) ys
  pairwise-left [] [] i x p r = tt
  pairwise-left [] (b ∷ ys) i x p r = absurd p
  pairwise-left (a ∷ xs) [] i x p r = absurd p
  pairwise-left (a ∷ xs) (b ∷ ys) zero x p r = (r a b refl p.0, p.1)
  pairwise-left (a ∷ xs) (b ∷ ys) (suc i) x p r = (p.0, pairwise-left xs ys i x p.1 r)

  pub pairwise-or : (xs ys : List A) (i : ℕ) (d : A) → Pairwise R xs ys → R d d → R (get_or xs i d) (get_or ys i d)
  pairwise-or [] [] i d p r = r
  pairwise-or [] (b ∷ ys) i d p r = absurd p
  pairwise-or (a ∷ xs) [] i d p r = absurd p
  pairwise-or (a ∷ xs) (b ∷ ys) zero d p r = p.0
  pairwise-or (a ∷ xs) (b ∷ ys) (suc i) d p r = pairwise-or xs ys i d p.1 r

  pub pairwise-at : (xs ys : List A) (i : ℕ) (d : A) → Pairwise R xs ys → R d d → R (elim (slice_get xs i) [ None ↦ d | Some x ↦ x ]) (elim (slice_get ys i) [ None ↦ d | Some y ↦ y ])
  pairwise-at [] [] i d p r = r
  pairwise-at [] (b ∷ ys) i d p r = absurd p
  pairwise-at (a ∷ xs) [] i d p r = absurd p
  pairwise-at (a ∷ xs) (b ∷ ys) zero d p r = p.0
  pairwise-at (a ∷ xs) (b ∷ ys) (suc i) d p r = pairwise-at xs ys i d p.1 r
