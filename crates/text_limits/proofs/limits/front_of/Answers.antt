use Rattle.text_limits.proofs.ClosedLines.{front-of}
use Rattle.text_limits.proofs.limits.front_of.Goals as goal

pub returns : goal.returns
returns c = front-of c.args.bytes.now c.args.most c.closed_length.result c.requires c.closed_length.ensures.fits c.closed_length.ensures.closed c.closed_length.ensures.line
