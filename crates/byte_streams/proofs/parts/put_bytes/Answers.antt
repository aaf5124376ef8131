use Rattle.std.proofs.Common.{◌+◌, ◌-◌, arith}
use Rattle.byte_streams.proofs.Putting.{lanes_put}
use Rattle.byte_streams.proofs.parts.put_bytes.Goals as goal

pub returns-clause-text : goal.returns-clause-text
returns-clause-text c = lanes_put 32 c.args.at (c.args.at + 32 - c.args.at) c.args.len c.args.bytes.now c.args.part.now (omega arith) (omega arith) (omega arith) c.requires.few
