use Rattle.std.proofs.lemmas.Fmt.{decimal_digit}
use Rattle.byte_streams.proofs.drafts.Line.digit.Goals as goal

pub returns : goal.returns
returns c = rw (decimal_digit c.args.n c.requires.digit) c.byte.ensures
