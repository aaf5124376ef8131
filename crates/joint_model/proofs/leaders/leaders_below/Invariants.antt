-- The leader before the low place has the number or a lower one, and the one at the high place has a higher one.
use Rattle.std.specs.Prelude.{◌-◌, ◌≤◌, length}
use Rattle.joint_model.proofs.Searching.{Below, Above}
use Rattle.joint_model.proofs.leaders.leaders_below.Given as goal

abbrev pub invariant-loop-low : goal.invariant-loop-low
invariant-loop-low l = (l.low ≤ l.high) × (l.high ≤ length l.leaders.all) × Below l.leaders.all l.number l.low × Above l.leaders.all l.number l.high

abbrev pub decreases-loop-low : goal.decreases-loop-low
decreases-loop-low l = l.high - l.low
