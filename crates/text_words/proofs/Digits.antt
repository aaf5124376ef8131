-- A word of one byte, and the number of which it is the decimal.
use Rattle.std.proofs.Common.{◌≡◌, ℕ, ◌+◌, ◌/◌, ◌%◌, ◌^◌, ◌<◌, List, [], ◌∷◌, ◌++◌, length, get_or, decimal, refl, sym, ap, ◌∙◌, arith, length-append, inl, inr}
use Rattle.std.proofs.lemmas.Bool.{cases_lt}
use Rattle.std.proofs.lemmas.Fmt.{decimal_digit, decimal_step, decimal_nonempty}

-- a number whose decimal is one byte is that digit
pub one_digit : (n b : ℕ) → n < 2 ^ 64 → decimal n ≡ b ∷ [] → (n < 10) × (48 + n ≡ b)
one_digit n b l e =
    elim (cases_lt n 10) [
      | inl s ↦ (s, ap (λ xs. get_or xs 0 0) (sym (decimal_digit n s) ∙ e))
      | inr g ↦
          let long : length (decimal (n / 10) ++ ((48 + n % 10) ∷ [])) ≡ 1 = ap length (sym (decimal_step n g l) ∙ e) in
          let some : 0 < length (decimal (n / 10)) = decimal_nonempty (n / 10) (omega arith) in
          absurd (omega (arith, length-append (decimal (n / 10)) ((48 + n % 10) ∷ [])))
    ]

-- a word of one byte is that byte
pub one_byte : (word : List ℕ) → length word ≡ 1 → word ≡ get_or word 0 0 ∷ []
one_byte [] e = absurd (omega arith)
one_byte (b ∷ []) e = refl
one_byte (b ∷ c ∷ bs) e = absurd (omega arith)
