-- A marking is open, so there is a slice.
use Rattle.std.proofs.Common.{rules}
use Rattle.joint_history.proofs.marks.BlackeningStep.draw.Goals as goal

pub unreachable-requires : goal.unreachable-requires
unreachable-requires c = (let w = c.mark_slice.ensures.open in let marking = c.requires.asks.0 in search rules)
