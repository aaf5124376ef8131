-- The rows so far are swept.
use Rattle.std.proofs.Common.{◌≡◌, map, vec_capacity}
use Rattle.row_heap.specs.Rows.{RowsSwept}
use Rattle.row_heap.proofs.sweeping.sweep_rows.Given as goal

abbrev pub invariant-loop-i : goal.invariant-loop-i
invariant-loop-i g l = record {
  swept : RowsSwept l.i l.fn.rows l.rows (map g.N.Number.number l.fn.freed.items) (map g.N.Number.number l.freed.items);
  capacity : vec_capacity l.freed ≡ vec_capacity l.fn.freed;
}
