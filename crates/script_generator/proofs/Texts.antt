-- The digits of the numbers in known scripts.
use Rattle.std.proofs.Common.{◌≡◌, [], ◌∷◌, arith}
use Rattle.std.specs.Prelude.{decimal}
use Rattle.std.proofs.lemmas.Fmt.{decimal_digit}

pub zero_text : decimal 0 ≡ 48 ∷ []
zero_text = decimal_digit 0 (omega arith)

pub one_text : decimal 1 ≡ 49 ∷ []
one_text = decimal_digit 1 (omega arith)

pub two_text : decimal 2 ≡ 50 ∷ []
two_text = decimal_digit 2 (omega arith)

pub three_text : decimal 3 ≡ 51 ∷ []
three_text = decimal_digit 3 (omega arith)

pub four_text : decimal 4 ≡ 52 ∷ []
four_text = decimal_digit 4 (omega arith)
