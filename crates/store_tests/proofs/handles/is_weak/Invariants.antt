-- The rows so far are weak for the peer.
use Rattle.std.proofs.Common.{◌≡◌, ◌<◌, ℕ, Some, slice_get}
use Rattle.global_handles.specs.declared.HandleRow.{HandleRow}
use Rattle.global_handles.specs.Rows.{IsWeakFor}
use Rattle.store_tests.proofs.handles.is_weak.Given as goal

abbrev pub invariant-loop-i : goal.invariant-loop-i
invariant-loop-i l = (k : ℕ) (r : HandleRow) → k < l.i → slice_get l.table.rows k ≡ Some r → IsWeakFor l.fn.p r
