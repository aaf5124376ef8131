-- The places of the rows so far.
use Rattle.std.proofs.Common.{◌≡◌, ◌+◌, length}
use Rattle.joint_machine.specs.Histories.{managed_numbers}
use Rattle.managed_heap.specs.Graphs.{ArePlaces}
use Rattle.managed_heap.proofs.graphs.places_of.Given as goal

abbrev pub invariant-loop-i : goal.invariant-loop-i
invariant-loop-i l = record {
  places : ArePlaces l.i (managed_numbers l.dead) l.places.items;
  len : length l.places.items ≡ l.made + 1;
}
