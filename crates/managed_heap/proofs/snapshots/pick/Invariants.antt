-- The rows so far are asked.
use Rattle.std.proofs.Common.{◌≡◌, ◌≤◌, length, vec_capacity, take, map}
use Rattle.std.specs.Prelude.{filter}
use Rattle.joint_machine.specs.Histories.{managed_numbers}
use Rattle.managed_heap.specs.declared.rows.Header.{Header}
use Rattle.managed_heap.specs.Resolving.{has_handle}
use Rattle.managed_heap.proofs.snapshots.pick.Given as goal

abbrev pub invariant-loop-m : goal.invariant-loop-m
invariant-loop-m l = record {
  items : l.picked.items ≡ filter (has_handle (map (λ (i : Header). i.handle) l.headers)) (managed_numbers (take l.m-index l.rows));
  capacity : vec_capacity l.picked ≡ vec_capacity l.fn.picked;
  few : length l.picked.items ≤ l.m-index;
}
