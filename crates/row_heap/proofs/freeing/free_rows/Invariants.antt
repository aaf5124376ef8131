-- The rows so far are removed.
use Rattle.std.proofs.Common.{◌≡◌, ◌++◌, map, take, vec_capacity}
use Rattle.row_heap.specs.Rows.{RowsFreed}
use Rattle.row_heap.proofs.freeing.free_rows.Given as goal

abbrev pub invariant-loop-x : goal.invariant-loop-x
invariant-loop-x g l = record {
  rows : RowsFreed (map g.N.Number.number (take l.x-index l.xs)) l.fn.rows l.rows;
  freed : l.freed.items ≡ l.fn.freed.items ++ take l.x-index l.xs;
  capacity : vec_capacity l.freed ≡ vec_capacity l.fn.freed;
}
