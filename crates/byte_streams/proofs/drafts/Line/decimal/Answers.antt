use Rattle.std.proofs.Common.{arith}
use Rattle.std.proofs.lemmas.Fmt.{decimal_digit}
use Rattle.byte_streams.proofs.drafts.Line.decimal.Goals as goal

pub returns-then-n-lt10 : goal.returns-then-n-lt10
returns-then-n-lt10 c = record { added = rw (decimal_digit c.args.n c.if-n-lt10.true) c.text.ensures.added; left = omega (arith, c.text.ensures.left) }
