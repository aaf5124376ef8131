-- The rows so far are asked.
use Rattle.std.proofs.Common.{◌≡◌, vec_capacity}
use Rattle.joint_machine.specs.Heaps.{IsLive}
use Rattle.joint_machine.specs.Histories.{managed_numbers}
use Rattle.joint_machine.specs.Gathered.{Gathered}
use Rattle.reachability.specs.Marks.{HasMark}
use Rattle.managed_heap.proofs.snapshots.whites.Given as goal

abbrev pub invariant-loop-m : goal.invariant-loop-m
invariant-loop-m l = record {
  gathered : Gathered (λ m. IsLive l.heap.heap m × (HasMark l.heap.marks m → ⊥)) l.m (managed_numbers l.rows.items);
  capacity : vec_capacity l.rows ≡ vec_capacity l.fn.rows;
}
