-- As the heap keeps it.
use Rattle.row_heap.proofs.Edges.{ends-live}
use Rattle.row_heap.proofs.heap.RowHeap.recall_ends_live.Goals as goal

pub returns : goal.returns
returns g c = ends-live _ _ _ _ c.self.inside.references _ _ c.args.self.now c.self.view_is c.self.invariant.0
