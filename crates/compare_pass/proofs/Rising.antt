-- Rising lists of numbers.
use Rattle.std.proofs.Common.{ℕ, suc, zero, ◌+◌, ◌<◌, ◌≤◌, List, [], ◌∷◌, length, get_or, arith, inl, inr}
use Rattle.std.specs.Prelude.{All, Contains}
use Rattle.std.proofs.lemmas.List.Elements.{All-contains}
use Rattle.joint_machine.specs.Components.{Rises, first_of}
use Rattle.joint_machine.proofs.Members.{Contains-nil, Contains-here, Contains-there, Contains-cons_cases}

pub rises_at : (xs : List ℕ) (i j : ℕ) → Rises xs → i < j → j < length xs → get_or xs i 0 < get_or xs j 0
rises_at [] i j r lt le = absurd (omega (arith, le))
rises_at (x ∷ xs) zero (suc j) r lt le = r.0 j 0 (omega (arith, le))
rises_at (x ∷ xs) (suc i) (suc j) r lt le = rises_at xs i j r.1 (omega (arith, lt)) (omega (arith, le))
rises_at (x ∷ xs) i zero r lt le = absurd (omega (arith, lt))

-- a rising list is no longer than one that has all its numbers
pub shorter : (xs ys : List ℕ) → Rises xs → Rises ys → ((x : ℕ) → Contains xs x → Contains ys x) → length xs ≤ length ys
shorter [] ys r s f = omega arith
shorter (x ∷ xs) [] r s f = absurd (Contains-nil x (f x (Contains-here x xs)))
shorter (x ∷ xs) (y ∷ ys) r s f = omega (arith, shorter xs ys r.1 s.1 later)
  where
    later : (z : ℕ) → Contains xs z → Contains ys z
    later z c = elim (Contains-cons_cases y ys z (f z (Contains-there z x xs c))) [
      | inr d ↦ d
      | inl e ↦ absurd (
          let a : x < z = All-contains (λ w. x < w) xs z r.0 c in
          elim (Contains-cons_cases y ys x (f x (Contains-here x xs))) [
            | inl h ↦ omega (arith, a, e, h)
            | inr d ↦ (let b : y < x = All-contains (λ w. y < w) ys x s.0 d in omega (arith, a, b, e))
          ])
    ]

-- the first of a rising list is its least
pub first-least : (xs : List ℕ) (y : ℕ) → Rises xs → Contains xs y → first_of xs ≤ y
first-least [] y r c = absurd (omega (arith, c.1))
first-least (x ∷ xs) y r c = elim (Contains-cons_cases x xs y c) [
  | inl e ↦ omega (arith, e)
  | inr d ↦ let lt = All-contains (λ z. x < z) xs y r.0 d in omega (arith, lt)
]

-- and is in it
pub first-in : (xs : List ℕ) → 0 < length xs → Contains xs (first_of xs)
first-in [] lt = absurd (omega (arith, lt))
first-in (x ∷ xs) lt = Contains-here x xs

-- a rising list between two numbers is no longer than what lies between them
pub rising-few : (xs : List ℕ) (low high : ℕ) → Rises xs → All (λ y. low ≤ y) xs → All (λ y. y < high) xs → low ≤ high → length xs + low ≤ high
rising-few [] low high r p q le = omega (arith, le)
rising-few (y ∷ ys) low high r p q le =
    let yl : low ≤ y = p 0 y (omega arith) in
    let yh : y < high = q 0 y (omega arith) in
    omega (arith, yl, rising-few ys (y + 1) high r.1 (λ k d l. omega (arith, r.0 k d l)) (λ k d l. q (suc k) d (omega (arith, l))) (omega (arith, yh)))
