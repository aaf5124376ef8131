-- As they were counted.
use Rattle.row_heap.proofs.FieldCounts.{count-seen}
use Rattle.row_heap.proofs.heap.RowHeap.fields_made.Goals as goal

pub returns : goal.returns
returns g c = rw (← c.self.view_is) (count-seen _ _ c.self.invariant.2)
