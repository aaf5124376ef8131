-- How many numbers up to a limit don't stand in a list: one that comes into it is one less, and one more that stays out
-- is one more.
use Rattle.std.proofs.Common.{◌≡◌, ℕ, zero, suc, ◌+◌, ◌≤◌, ◌<◌, ◌⊎◌, inl, inr, Bool, true, false, ◌||◌, List, [], ◌∷◌, ◌++◌, length, nat_eq, refl, subst, ◌∙◌, arith, append_assoc}
use Rattle.std.specs.Prelude.{Contains, All}
use Rattle.std.proofs.lemmas.List.{append-nil}
use Rattle.std.proofs.lemmas.List.Folds.{list_any-append}
use Rattle.std.proofs.lemmas.List.Elements.{All-contains, Contains-append_cases}
use Rattle.std.proofs.lemmas.Cmp.{nat_eq_equiv}
use Rattle.joint_machine.specs.Components.{Rises}
use Rattle.joint_machine.proofs.Members.{Contains-nil, Contains-here, Contains-there, Contains-cons_cases}
use Rattle.joint_machine.proofs.HeapLemmas.{is_freed-Contains}
use Rattle.summary_laws.specs.States.{stands_in, others_up_to}

eq-other : (x y : ℕ) → (x ≡ y → ⊥) → nat_eq x y ≡ false
eq-other x y n = grind arith

-- a number put last stands in the list, and no other comes into it
put-here : (xs : List ℕ) (y : ℕ) → stands_in (xs ++ y ∷ []) y ≡ true
put-here xs y = list_any-append (nat_eq y) xs (y ∷ []) ∙ by (stands_in xs y)
  where
    by : (b : Bool) → (b || (nat_eq y y || false)) ≡ true
    by true = refl
    by false = rw (nat_eq_equiv.refl y) refl

put-other : (xs : List ℕ) (y x : ℕ) → (x ≡ y → ⊥) → stands_in (xs ++ y ∷ []) x ≡ stands_in xs x
put-other xs y x n = list_any-append (nat_eq x) xs (y ∷ []) ∙ by (stands_in xs x)
  where
    by : (b : Bool) → (b || (nat_eq x y || false)) ≡ b
    by true = refl
    by false = rw (eq-other x y n) refl

below-same : (xs : List ℕ) (y n : ℕ) → n < y → others_up_to (xs ++ y ∷ []) n ≡ others_up_to xs n
below-same xs y zero l = refl
below-same xs y (suc n) l =
    let e : stands_in (xs ++ y ∷ []) (suc n) ≡ stands_in xs (suc n) = put-other xs y (suc n) (λ q. omega (arith, q, l)) in
    rw (e, below-same xs y n (omega (arith, l))) refl

last-cases : (y n : ℕ) → y ≤ suc n → (y ≡ suc n) ⊎ (y ≤ n)
last-cases y n b = grind arith

put-last : (xs : List ℕ) (y n : ℕ) → stands_in xs y ≡ false → (y ≤ n → others_up_to (xs ++ y ∷ []) n + 1 ≡ others_up_to xs n)
    → (y ≡ suc n) ⊎ (y ≤ n) → others_up_to (xs ++ y ∷ []) (suc n) + 1 ≡ others_up_to xs (suc n)
put-last xs y n e rest (inl q) =
    let here : stands_in (xs ++ y ∷ []) (suc n) ≡ true = subst (λ z. stands_in (xs ++ y ∷ []) z ≡ true) q (put-here xs y) in
    let out : stands_in xs (suc n) ≡ false = subst (λ z. stands_in xs z ≡ false) q e in
    rw (here, out, below-same xs y n (omega (arith, q))) (omega arith)
put-last xs y n e rest (inr l) =
    let same : stands_in (xs ++ y ∷ []) (suc n) ≡ stands_in xs (suc n) = put-other xs y (suc n) (λ q. omega (arith, q, l)) in
    let before = rest l in
    rw same (omega (arith, before))

put-one : (xs : List ℕ) (y n : ℕ) → 1 ≤ y → y ≤ n → stands_in xs y ≡ false → others_up_to (xs ++ y ∷ []) n + 1 ≡ others_up_to xs n
put-one xs y zero a b e = absurd (omega (arith, a, b))
put-one xs y (suc n) a b e = put-last xs y n e (λ l. put-one xs y n a l e) (last-cases y n b)

-- numbers from 1 to n that don't stand in a list yet, one after another
abbrev pub AreFresh : List ℕ → List ℕ → ℕ → Type 0
AreFresh xs [] n = Unit {0}
AreFresh xs (y ∷ ys) n = (1 ≤ y) × (y ≤ n) × (stands_in xs y ≡ false) × AreFresh (xs ++ y ∷ []) ys n

pub put-all : (xs ys : List ℕ) (n : ℕ) → AreFresh xs ys n → others_up_to (xs ++ ys) n + length ys ≡ others_up_to xs n
put-all xs [] n f = rw (append-nil xs) (omega arith)
put-all xs (y ∷ ys) n f =
    let rest = put-all (xs ++ y ∷ []) ys n f.3 in
    let first = put-one xs y n f.0 f.1 f.2 in
    let same : (xs ++ y ∷ []) ++ ys ≡ xs ++ (y ∷ ys) = append_assoc xs (y ∷ []) ys in
    let moved : others_up_to (xs ++ (y ∷ ys)) n + length ys ≡ others_up_to (xs ++ y ∷ []) n = subst (λ z. others_up_to z n + length ys ≡ others_up_to (xs ++ y ∷ []) n) same rest in
    omega (arith, moved, first)

-- numbers that rise and don't stand in a list are so
pub outside : (xs : List ℕ) (y : ℕ) → (Contains xs y → ⊥) → stands_in xs y ≡ false
outside xs y n = by (stands_in xs y) refl
  where
    by : (b : Bool) → stands_in xs y ≡ b → b ≡ false
    by true e = absurd (n (is_freed-Contains (record { fields = []; freed = xs; vars = []; statics = [] }) y e))
    by false e = refl

later_ones : (xs ys : List ℕ) (y n : ℕ) → All (λ x. y < x) ys → ((z : ℕ) → Contains ys z → (1 ≤ z) × (z ≤ n) × (Contains xs z → ⊥))
    → (z : ℕ) → Contains ys z → (1 ≤ z) × (z ≤ n) × (Contains (xs ++ y ∷ []) z → ⊥)
later_ones xs ys y n r f z c =
    let there = f z c in
    let over : y < z = All-contains (λ x. y < x) ys z r c in (
      there.0,
      there.1,
      λ d. elim (Contains-append_cases xs (y ∷ []) z d) [
        | inl w ↦ there.2 w
        | inr w ↦ elim (Contains-cons_cases y [] z w) [ inl e ↦ absurd (omega (arith, e, over)) | inr e ↦ Contains-nil z e ]
      ],
    )

pub rising-fresh : (xs ys : List ℕ) (n : ℕ) → Rises ys → ((y : ℕ) → Contains ys y → (1 ≤ y) × (y ≤ n) × (Contains xs y → ⊥)) → AreFresh xs ys n
rising-fresh xs [] n r f = tt
rising-fresh xs (y ∷ ys) n r f =
    let here = f y (Contains-here y ys) in
    (here.0, here.1, outside xs y here.2, rising-fresh (xs ++ y ∷ []) ys n r.1 (later_ones xs ys y n r.0 (λ z c. f z (Contains-there z y ys c))))

-- one number more that stays out
pub grown-by_one : (xs : List ℕ) (n : ℕ) → (Contains xs (suc n) → ⊥) → others_up_to xs (suc n) ≡ others_up_to xs n + 1
grown-by_one xs n f = rw (outside xs (suc n) f) refl
