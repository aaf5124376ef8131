-- The notices of the rows so far are queued, and there is room for those of the others.
use Rattle.std.proofs.Common.{◌≡◌, ◌≤◌, ◌++◌, length, take, drop, map}
use Rattle.std.specs.Prelude.{filter}
use Rattle.joint_machine.specs.Histories.{managed_numbers}
use Rattle.managed_heap.specs.declared.rows.Header.{Header}
use Rattle.managed_heap.specs.Resolving.{has_handle}
use Rattle.managed_heap.proofs.resolving.notify.Given as goal

abbrev pub invariant-loop-m : goal.invariant-loop-m
invariant-loop-m l = record {
  queued : managed_numbers l.notices.queued ≡ managed_numbers l.fn.notices.queued ++ filter (has_handle (map (λ (i : Header). i.handle) l.headers)) (managed_numbers (take l.m-index l.rows));
  taken : l.notices.taken ≡ l.fn.notices.taken;
  room : length (filter (has_handle (map (λ (i : Header). i.handle) l.headers)) (managed_numbers (drop l.m-index l.rows))) ≤ l.notices.spare;
}
