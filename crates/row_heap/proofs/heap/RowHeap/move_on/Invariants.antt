-- The first objects so far are freed.
use Rattle.std.proofs.Common.{◌-◌, length, map}
use Rattle.row_heap.specs.Rows.{AreGone}
use Rattle.row_heap.proofs.heap.RowHeap.move_on.Given as goal

abbrev pub invariant-loop-gone : goal.invariant-loop-gone
invariant-loop-gone g l = AreGone l.gone (map g.N.Number.number l.self-inside.freed.items)

abbrev pub decreases-loop-gone : goal.decreases-loop-gone
decreases-loop-gone g l = length l.self-inside.rows - l.gone
