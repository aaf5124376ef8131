use Rattle.std.proofs.Common.{below_more}
use Rattle.cycle_check.proofs.kept.lost_member.Goals as goal

pub loop-c-preserved : goal.loop-c-preserved
loop-c-preserved c = below_more _ _ c.loop-c.invariant c.in_default.ensures
