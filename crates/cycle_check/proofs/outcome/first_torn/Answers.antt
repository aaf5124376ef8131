use Rattle.std.proofs.Common.{below_more}
use Rattle.cycle_check.proofs.outcome.first_torn.Goals as goal

pub loop-y-preserved : goal.loop-y-preserved
loop-y-preserved c = below_more _ _ c.loop-y.invariant c.if-is_torn.ensures
