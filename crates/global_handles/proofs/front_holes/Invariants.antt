-- The names so far lead to no row.
use Rattle.std.proofs.Common.{◌-◌, ◌≤◌, length}
use Rattle.global_handles.specs.Slots.{AreHoles}
use Rattle.global_handles.proofs.front_holes.Given as goal

abbrev pub invariant-loop-holes : goal.invariant-loop-holes
invariant-loop-holes l = record {
  within : l.holes ≤ length l.names;
  holes : AreHoles l.slots l.holes l.names;
}

abbrev pub decreases-loop-holes : goal.decreases-loop-holes
decreases-loop-holes l = length l.names - l.holes
