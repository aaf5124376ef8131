-- A number is read digit by digit: so far it is the number that the first digits write, which is below ten to the power
-- of so many.
use Rattle.std.proofs.Common.{◌≡◌, ℕ, ◌+◌, ◌-◌, ◌*◌, ◌/◌, ◌%◌, ◌<◌, ◌≤◌, ◌^◌, ◌⊎◌, inl, inr, List, [], ◌∷◌, ◌++◌, get_or, length, take, decimal, sym, ap, ◌∙◌, subst, arith}
use Rattle.std.proofs.lemmas.Bool.{cases_lt}
use Rattle.std.proofs.lemmas.Fmt.{decimal_digit, decimal_step, first_decimal}
use Rattle.std.proofs.lemmas.List.{take_more}
use Rattle.std.proofs.lemmas.Grind.{pow_more}
use Rattle.std.proofs.Math.Nat.{pow-le-pow_right}
use Rattle.text_words.proofs.Decimals.{IsDigit, decimal-digits}

-- the first digits of a word write a number
pub record IsSoFar (word : List ℕ) (i n : ℕ) : Type 0 where
  pub some : 1 ≤ n
  pub below : n < 10 ^ i
  pub text : decimal n ≡ take i word

-- ten to the power of at most 19 is below 2^64
pub power_below : (i : ℕ) → i ≤ 19 → 10 ^ i ≤ 10000000000000000000
power_below i l = pow-le-pow_right {n = 10} (omega arith) {i = i} {j = 19} l

pub so_far_first : (word : List ℕ) (b : ℕ) → 0 < length word → get_or word 0 0 ≡ b → 49 ≤ b → b ≤ 57 → IsSoFar word 1 (b - 48)
so_far_first [] b l e low high = absurd (omega (arith, l))
so_far_first (w ∷ word) b l e low high = record { some = omega arith; below = omega arith; text = decimal_digit (b - 48) (omega arith) ∙ ap (λ k. k ∷ []) (omega (arith, e)) }

pub so_far_more : (word : List ℕ) (i n b : ℕ) → i < length word → i < 19 → get_or word i 0 ≡ b → 48 ≤ b → b ≤ 57 → IsSoFar word i n → IsSoFar word (i + 1) (n * 10 + (b - 48))
so_far_more word i n b l few e low high s =
    let m = n * 10 + (b - 48) in
    let some = s.some in
    let below = s.below in
    let power = pow_more 10 i in
    let next : m < 10 ^ (i + 1) = omega (arith, below, power, low, high) in
    let most = power_below (i + 1) (omega (arith, few)) in
    let tens : m / 10 ≡ n = omega (arith, low, high) in
    let ones : 48 + m % 10 ≡ b = omega (arith, low, high) in
    let step = decimal_step m (omega (arith, some)) (omega (arith, next, most)) in
    record {
      some = omega (arith, some);
      below = next;
      text = step ∙ ((λ j. decimal (tens j) ++ (ones j ∷ [])) ∙ (ap (λ z. z ++ (b ∷ [])) s.text ∙ (ap (λ k. take i word ++ (k ∷ [])) (sym e) ∙ sym (take_more word i 0 l))));
    }

-- a byte that is no digit stands in no number
pub no_digit : (word : List ℕ) (i n : ℕ) → i < length word → (get_or word i 0 < 48) ⊎ (57 < get_or word i 0) → decimal n ≡ word → ⊥
no_digit word i n l o e =
    let d : IsDigit (get_or word i 0) = subst (λ (z : List ℕ). IsDigit (get_or z i 0)) e (decimal-digits n i 0 (let k = ap length e in omega (arith, k, l))) in
    let a = d.0 in
    let b = d.1 in
    elim o [ inl h ↦ omega (arith, a, h) | inr h ↦ omega (arith, b, h) ]

-- and no number of two digits begins with a zero
pub no_zero : (word : List ℕ) (n : ℕ) → 1 < length word → get_or word 0 0 < 49 → n < 2 ^ 64 → decimal n ≡ word → ⊥
no_zero word n l o f e = elim (cases_lt 0 n) [
  | inl h ↦ (let d = first_decimal n h f in let k = ap (λ (z : List ℕ). get_or z 0 0) e in omega (arith, d, k, o))
  | inr h ↦ (let z : n ≡ 0 = omega arith in let k = ap length (sym (ap decimal z) ∙ e) in let one = ap length (decimal_digit 0 (omega arith)) in omega (arith, k, l, one))
]

-- so another digit fits
pub so_far_small : (word : List ℕ) (i n : ℕ) → i < 19 → IsSoFar word i n → n < 1000000000000000000
so_far_small word i n l s =
    let most : 10 ^ i ≤ 1000000000000000000 = pow-le-pow_right {n = 10} (omega arith) {i = i} {j = 18} (omega (arith, l)) in
    let below = s.below in
    omega (arith, most, below)
