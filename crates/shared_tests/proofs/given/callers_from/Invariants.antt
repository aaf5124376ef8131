use Rattle.std.specs.Prelude.{◌≤◌, All}
use Rattle.joint_history.specs.Ending.{HasAll}
use Rattle.shared_tests.specs.Starts.{IsStarting, IsStartingPeer, IsWaiting}
use Rattle.shared_tests.proofs.given.callers_from.Given as goal

abbrev pub invariant-loop-place : goal.invariant-loop-place
invariant-loop-place g l = HasAll l.desk l.callers.items × All IsWaiting l.callers.items × (1 ≤ l.first → All IsStarting l.callers.items)
    × (9 ≤ l.first → All IsStartingPeer l.callers.items)
