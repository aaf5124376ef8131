use Rattle.std.proofs.Common.{◌≡◌, ◌<◌, ◌^◌, sym, ap, ◌∙◌, decimal, arith}
use Rattle.std.proofs.lemmas.Fmt.{parse-decimal}
use Rattle.command_words.proofs.reading.number.Goals as goal

pub returns-in_default : goal.returns-in_default
returns-in_default c = λ n l e.
    let small : n < 2 ^ 64 = let most = c.ranges.most.fits in omega arith in
    c.in_default.not-Ok n (parse-decimal 64 n c.args.word.now c.parse.result small small (sym e) c.parse.ensures.value.0)

pub returns-then-n-most : goal.returns-then-n-most
returns-then-n-most c = λ n l e.
    let small : n < 2 ^ 64 = let most = c.ranges.most.fits in omega arith in
    let same = parse-decimal 64 n c.args.word.now c.parse.result small small (sym e) c.parse.ensures.value.0 in
    let eq : c.in-Ok.n ≡ n = cc in
    let high = c.if-n-most.true in
    absurd (omega (arith, eq, high, l))

pub returns-else-is_same : goal.returns-else-is_same
returns-else-is_same c = λ n l e.
    let small : n < 2 ^ 64 = let most = c.ranges.most.fits in omega arith in
    let same = parse-decimal 64 n c.args.word.now c.parse.result small small (sym e) c.parse.ensures.value.0 in
    let eq : c.in-Ok.n ≡ n = cc in
    let text : c.format.result.now ≡ c.args.word.now = c.format.ensures.text ∙ (ap decimal eq ∙ e) in
    c.if-is_same.ensures text
