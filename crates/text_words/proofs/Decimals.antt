-- The decimal of any number has digits alone, and a number of at most 64 bits is known by its decimal among all
-- numbers: a decimal past 64 digits is cut to its last 64, so it is longer than that of any such number.
use Rattle.std.proofs.Common.{◌≡◌, ℕ, ◌+◌, ◌<◌, ◌≤◌, ◌/◌, ◌%◌, ◌^◌, Bool, true, false, cond, inl, inr, zero, suc, List, [], ◌∷◌, length, decimal, refl, sym, ◌∙◌, ap, arith, All}
use Rattle.std.specs.Fmt.{digit_glyph, digits_onto, digits}
use Rattle.std.specs.Str.Parse.{digits_value}
use Rattle.std.proofs.Math.Dec.{eqb, ltb}
use Rattle.std.proofs.lemmas.Bool.{cases_lt}
use Rattle.std.proofs.lemmas.Bool.Decides.{nat_tests}
use Rattle.std.proofs.lemmas.Fmt.{decimal_is_IsNumeral_wide, length-decimal-le}
use Rattle.std.proofs.lemmas.List.Elements.{All-cons, All-nil}

-- a byte is a digit
abbrev pub IsDigit : ℕ → Type 0
IsDigit b = (48 ≤ b) × (b ≤ 57)

glyph-digit : (d : ℕ) → d < 10 → IsDigit (digit_glyph false d)
glyph-digit d l = by (ltb d 10) refl
  where
    by : (t : Bool) → ltb d 10 ≡ t → IsDigit (cond t (48 + d) (87 + d))
    by true e = (omega arith, omega arith)
    by false e = (let g : ⊥ = grind (arith, nat_tests) in absurd g)

onto-digits : (k n : ℕ) (acc : List ℕ) → All IsDigit acc → All IsDigit (digits_onto k 10 false n acc)
onto-digits zero n acc h = h
onto-digits (suc k) n acc h =
    let more = All-cons IsDigit (digit_glyph false (n % 10)) acc (glyph-digit (n % 10) (omega arith)) h in
    by (eqb (n / 10) 0) more (onto-digits k (n / 10) (digit_glyph false (n % 10) ∷ acc) more)
  where
    by : (t : Bool) → All IsDigit (digit_glyph false (n % 10) ∷ acc) → All IsDigit (digits_onto k 10 false (n / 10) (digit_glyph false (n % 10) ∷ acc))
        → All IsDigit (cond t (digit_glyph false (n % 10) ∷ acc) (digits_onto k 10 false (n / 10) (digit_glyph false (n % 10) ∷ acc)))
    by true a b = a
    by false a b = b

pub decimal-digits : (n : ℕ) → All IsDigit (decimal n)
unfolding digits
decimal-digits n = onto-digits 64 n [] (All-nil IsDigit)

power-some : (k : ℕ) → 1 ≤ 10 ^ k
power-some zero = omega arith
power-some (suc k) = omega (arith, power-some k)

onto-long : (k n : ℕ) (acc : List ℕ) → 10 ^ k ≤ n → length (digits_onto k 10 false n acc) ≡ k + length acc
onto-long zero n acc l = omega arith
onto-long (suc k) n acc l = by (eqb (n / 10) 0) refl (onto-long k (n / 10) (digit_glyph false (n % 10) ∷ acc) (omega arith))
  where
    by : (t : Bool) → eqb (n / 10) 0 ≡ t → length (digits_onto k 10 false (n / 10) (digit_glyph false (n % 10) ∷ acc)) ≡ k + length (digit_glyph false (n % 10) ∷ acc)
        → length (cond t (digit_glyph false (n % 10) ∷ acc) (digits_onto k 10 false (n / 10) (digit_glyph false (n % 10) ∷ acc))) ≡ suc k + length acc
    by true e h = (let z : n / 10 ≡ 0 = grind (arith, nat_tests) in absurd (omega (arith, l, z, power-some k)))
    by false e h = omega (arith, h)

decimal-long : (n : ℕ) → 10 ^ 64 ≤ n → length (decimal n) ≡ 64
unfolding digits
decimal-long n l = omega (arith, onto-long 64 n [] l)

-- a number with a short decimal has at most 64 digits
pub short-number : (n : ℕ) → length (decimal n) < 64 → n < 10 ^ 64
short-number n l = elim (cases_lt n (10 ^ 64)) [ inl h ↦ h | inr h ↦ absurd (omega (arith, l, decimal-long n h)) ]

pub decimal-one : (m n : ℕ) → m < 2 ^ 64 → decimal m ≡ decimal n → m ≡ n
decimal-one m n l e =
    let short = length-decimal-le 20 m (omega arith) (omega arith) (omega arith) in
    let k : n < 10 ^ 64 = short-number n (omega (arith, short, ap length e)) in
    sym (decimal_is_IsNumeral_wide m (omega arith)).1 ∙ (ap (digits_value 10) e ∙ (decimal_is_IsNumeral_wide n k).1)
