use Rattle.std.proofs.Common.{refl}
use Rattle.joint_history.proofs.driven.FinalisingStep.draw.Goals as goal

pub draw-requires-clause-asks : goal.draw-requires-clause-asks
draw-requires-clause-asks c = ((((c.requires.asks.0, c.requires.asks.1), tt), tt), tt, refl, tt, c.requires.asks.2, c.requires.asks.3)
