-- A row with a mark stands.
use Rattle.row_heap.proofs.Edges.{marked-live}
use Rattle.row_heap.proofs.heap.RowHeap.recall_marked_live.Goals as goal

pub returns : goal.returns
returns g c = marked-live _ _ _ _ c.self.inside.references _ _ c.args.self.now c.self.view_is c.self.invariant.0.sound c.recall_marked_stand.ensures
