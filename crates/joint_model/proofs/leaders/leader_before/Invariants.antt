-- The low one stands at the place or before it, and the high one, where there is one, after it.
use Rattle.std.specs.Prelude.{◌+◌, ◌-◌, ◌<◌, ◌≤◌, length, slice_index_or}
use Rattle.joint_model.specs.declared.marks.Leader.{Leader}
use Rattle.joint_model.proofs.leaders.leader_before.Given as goal

abbrev pub invariant-loop-high : goal.invariant-loop-high
invariant-loop-high l =
    (l.low < l.high) × (l.high ≤ length l.leaders.all) × ((d : Leader) → l.low + (slice_index_or l.leaders.all l.low d).from ≤ l.place)
    × ((d : Leader) → l.high < length l.leaders.all → l.place < l.high + (slice_index_or l.leaders.all l.high d).from)

abbrev pub decreases-loop-high : goal.decreases-loop-high
decreases-loop-high l = l.high - l.low
