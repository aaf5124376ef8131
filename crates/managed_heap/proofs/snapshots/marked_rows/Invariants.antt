-- The rows so far are asked.
use Rattle.std.proofs.Common.{◌≡◌, ◌≤◌, length, vec_capacity, take}
use Rattle.std.specs.Prelude.{filter}
use Rattle.joint_machine.specs.Histories.{managed_numbers}
use Rattle.reachability.specs.Marks.{marked}
use Rattle.managed_heap.proofs.snapshots.marked_rows.Given as goal

abbrev pub invariant-loop-m : goal.invariant-loop-m
invariant-loop-m l = record {
  items : managed_numbers l.found.items ≡ filter (marked l.heap.marks) (managed_numbers (take l.m-index l.rows));
  capacity : vec_capacity l.found ≡ vec_capacity l.fn.found;
  few : length l.found.items ≤ l.m-index;
}
