-- A mark for each row, and one before the first.
use Rattle.std.proofs.Common.{arith}
use Rattle.std.proofs.lemmas.List.{length-map}
use Rattle.row_heap.specs.Places.{Seen}
use Rattle.row_heap.proofs.heap.RowHeap.recall_marks_len.Goals as goal

pub returns : goal.returns
returns g c =
    let rows = c.self.inside.rows in
    rw (← c.self.view_is) (omega (arith, length-map rows (λ (r : Seen). r.marked), length-map rows (λ (r : Seen). r.fields)))
