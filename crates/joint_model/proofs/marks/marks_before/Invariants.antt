-- The mark before the low place stands before the leader, and the one at the high place doesn't.
use Rattle.std.specs.Prelude.{◌-◌, ◌≤◌, length}
use Rattle.joint_model.proofs.Places.{Before, After}
use Rattle.joint_model.proofs.marks.marks_before.Given as goal

abbrev pub invariant-loop-low : goal.invariant-loop-low
invariant-loop-low l = (l.low ≤ l.high) × (l.high ≤ length l.marks) × Before l.marks l.place l.low × After l.marks l.place l.high

abbrev pub decreases-loop-low : goal.decreases-loop-low
decreases-loop-low l = l.high - l.low
