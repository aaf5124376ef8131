use Rattle.std.proofs.Common.{◌≡◌, sym, ap, ◌∙◌, decimal}
use Rattle.std.proofs.lemmas.Str.{IsUtf8-from_ascii}
use Rattle.std.proofs.lemmas.Fmt.{parse-decimal, IsAscii-decimal}
use Rattle.text_words.proofs.numbers.long_number.Goals as goal

pub returns-in_default : goal.returns-in_default
returns-in_default c = λ n l e. c.in_default.ensures.cases.0 (rw (← e) (IsUtf8-from_ascii _ (IsAscii-decimal n l)))

pub returns-in_default-parse : goal.returns-in_default-parse
returns-in_default-parse c = λ n l e. c.in_default-parse.not-Ok n (parse-decimal 64 n c.in-Ok.text.now c.parse.result l l (c.in-Ok.ensures.cases.0 ∙ sym e) c.parse.ensures.value.0)

pub returns-else-is_same : goal.returns-else-is_same
returns-else-is_same c = λ n l e.
    let same = parse-decimal 64 n c.in-Ok.text.now c.parse.result l l (c.in-Ok.ensures.cases.0 ∙ sym e) c.parse.ensures.value.0 in
    let eq : c.in-Ok-parse.n ≡ n = cc in
    c.if-is_same.ensures (c.as_bytes.ensures.value ∙ (c.format.ensures.text ∙ (ap decimal eq ∙ e)))
