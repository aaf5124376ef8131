-- Two texts whose first bytes are compared at once: the answers are the bits of a number, of which the lowest stands
-- first, so the zeros at its end count the places from the front on at which both have the same byte.
use Rattle.std.proofs.Common.{◌≡◌, ℕ, ◌+◌, ◌-◌, ◌++◌, ◌%◌, ◌^◌, ◌≤◌, Bool, true, false, cond, eqb, not, List, [], ◌∷◌, length, take, drop, take-add, map, refl, sym, ◌∙◌, ap, arith, w8, zero, suc}
use lib.Lanes.{zip2, mask_l, top}
use lib.Count.{count_trailing_zeros}
use Rattle.std.specs.List.{prefix_len}
use Rattle.std.proofs.lemmas.Bool.{eqb-true}
use Rattle.std.proofs.lemmas.List.{map-id, length-take-le, take-take}
use Rattle.std.proofs.lemmas.Simd.{tops_compared, mask_l-mod, first_set_mask_l, length-zip2}

-- whether two bytes differ
abbrev pub differ : ℕ → ℕ → Bool
differ a b = not (eqb a b)

-- the bits that the comparison of the first 32 gives
abbrev pub differ_bits : List ℕ → List ℕ → ℕ
differ_bits a b = mask_l (map (top 7) (zip2 (λ x y. cond (differ x y) 255 0) (take 32 a) (take 32 b))) % 2 ^ 64

-- a run that goes on past a place: both have the same byte there, and the rest of it is behind
goes_on : (same : Bool) (n r : ℕ) → suc n ≤ cond (not (not same)) (1 + r) 0 → (same ≡ true) × (n ≤ r)
goes_on true n r le = (refl, omega arith)
goes_on false n r le = absurd (omega arith)

-- as far as no place differs both have the same front
front_same : (xs ys : List ℕ) (n : ℕ) → length xs ≡ length ys → n ≤ prefix_len not (zip2 differ xs ys) → take n xs ≡ take n ys
front_same [] [] n e le = refl
front_same [] (y ∷ ys) n e le = absurd (omega arith)
front_same (x ∷ xs) [] n e le = absurd (omega arith)
front_same (x ∷ xs) (y ∷ ys) zero e le = refl
front_same (x ∷ xs) (y ∷ ys) (suc n) e le =
    let on = goes_on (eqb x y) n (prefix_len not (zip2 differ xs ys)) le in
    λ i. eqb-true x y on.0 i ∷ front_same xs ys n (omega arith) on.1 i

-- so many zeros at the end of the bits are so many places from the front on, where there is a bit, and else all
counted : (bits n w r : ℕ) → cond (eqb bits 0) w (count_trailing_zeros 64 bits) ≡ r → n ≤ count_trailing_zeros 64 bits → n ≤ w → n ≤ r
counted bits n w r = chosen (eqb bits 0) n w r (count_trailing_zeros 64 bits)
  where
    chosen : (none : Bool) (n w r z : ℕ) → cond none w z ≡ r → n ≤ z → n ≤ w → n ≤ r
    chosen true n w r z e le few = omega arith
    chosen false n w r z e le few = omega arith

pub run_same : (a b : List ℕ) (n : ℕ) → 32 ≤ length a → 32 ≤ length b → n ≤ count_trailing_zeros 64 (differ_bits a b) → n ≤ 32 → take n a ≡ take n b
run_same a b n la lb le few =
    let xs = take 32 a in
    let ys = take 32 b in
    let long = length-take-le 32 a la in
    let even : length xs ≡ length ys = long ∙ sym (length-take-le 32 b lb) in
    let size : length (zip2 differ xs ys) ≡ 32 = length-zip2 differ xs ys even ∙ long in
    let bits : differ_bits a b ≡ mask_l (zip2 differ xs ys) = ap (λ ms. mask_l ms % 2 ^ 64) (tops_compared w8 differ xs ys) ∙ mask_l-mod (zip2 differ xs ys) 64 (omega (arith, size)) in
    let whole : mask_l (map (λ m. m) (zip2 differ xs ys)) ≡ mask_l (zip2 differ xs ys) = ap mask_l (map-id (zip2 differ xs ys)) in
    let run = rw whole at (first_set_mask_l (λ m. m) (zip2 differ xs ys) 32 size (omega arith)) in
    let front = front_same xs ys n even (counted (mask_l (zip2 differ xs ys)) n 32 (prefix_len not (zip2 differ xs ys)) run (rw bits at le) few) in
    sym (take-take n 32 a few) ∙ (front ∙ take-take n 32 b few)

-- two texts that have the same 32 bytes in front and the same last 32 of so many have the same front
pub ends_same : (a b : List ℕ) (n : ℕ) → 32 ≤ n → n ≤ 64 → take 32 a ≡ take 32 b → take 32 (drop (n - 32) a) ≡ take 32 (drop (n - 32) b) → take n a ≡ take n b
ends_same a b n many few front back =
    let whole : (n - 32) + 32 ≡ n = omega arith in
    let first : take (n - 32) a ≡ take (n - 32) b = sym (take-take (n - 32) 32 a (omega arith)) ∙ (ap (take (n - 32)) front ∙ take-take (n - 32) 32 b (omega arith)) in
    rw whole at (take-add (n - 32) 32 a ∙ ((λ i. first i ++ back i) ∙ sym (take-add (n - 32) 32 b)))
