use Rattle.std.specs.Prelude.{All}
use Rattle.joint_history.specs.Ending.{HasAll}
use Rattle.weak_reads.specs.Racing.{IsReady}
use Rattle.weak_reads.proofs.callers.with_others.Given as goal

abbrev pub invariant-loop-other : goal.invariant-loop-other
invariant-loop-other g l = HasAll l.desk l.callers.items × All IsReady l.callers.items
