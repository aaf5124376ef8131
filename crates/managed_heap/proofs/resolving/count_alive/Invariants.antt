-- The answers so far.
use Rattle.std.proofs.Common.{◌≡◌, ◌≤◌, take}
use Rattle.std.specs.Prelude.{count_by, is_some}
use Rattle.managed_heap.proofs.resolving.count_alive.Given as goal

abbrev pub invariant-loop-i : goal.invariant-loop-i
invariant-loop-i l = record {
  count : l.count ≡ count_by is_some (take l.i l.alive.values);
  within : l.count ≤ l.i;
}
