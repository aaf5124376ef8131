use Rattle.std.proofs.Common.{◌≡◌, ◌+◌, ◌-◌, [], ◌∷◌, ap, ◌∙◌, arith, inl, inr}
use Rattle.std.proofs.lemmas.Fmt.{decimal_digit}
use Rattle.text_words.proofs.Digits.{one_digit}
use Rattle.text_words.proofs.numbers.digit.Goals as goal

pub returns-then-byte-lt48 : goal.returns-then-byte-lt48
returns-then-byte-lt48 c = λ n l e.
    let d = one_digit n c.args.byte l e in
    elim c.then-byte-lt48.either [
      | inl low ↦ omega (arith, d.0, d.1)
      | inr high ↦ omega (arith, d.0, d.1, high.1)
    ]

pub returns : goal.returns
returns c =
    let e : 48 + (c.args.byte - 48) ≡ c.args.byte = omega arith in
    (omega arith, decimal_digit (c.args.byte - 48) (omega arith) ∙ ap (λ b. b ∷ []) e)
