use Rattle.byte_streams.proofs.Digits.{decimal_two}
use Rattle.byte_streams.proofs.drafts.Line.two_digits.Goals as goal

pub returns : goal.returns
returns c = rw (decimal_two c.args.n c.requires.digits.0 c.requires.digits.1) c.pair.ensures
