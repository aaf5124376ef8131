-- The references stay, and a temporary that is seen was seen.
use Rattle.row_heap.proofs.Sound.{AreReferences-roomy, IsRowHeap-other, seen-err, seen-roomy}
use Rattle.row_heap.proofs.heap.RowHeap.reserve_references.Goals as goal

pub invariant_of-self : goal.invariant_of-self
invariant_of-self g c = (
  IsRowHeap-other _ _ _ _ _ _ _ _ _ c.self.invariant.0 (AreReferences-roomy _ _ _ _ c.reserve.ensures.refs c.reserve.ensures.seen c.self.invariant.0.references),
  c.self.invariant.1,
  c.self.invariant.2,
)

pub returns-clause-ok : goal.returns-clause-ok
returns-clause-ok g c = seen-roomy c.reserve.result _ _ _ _ _ _ c.self.inside.references c.reserve.new.self _ _ c.self.view_is c.reserve.ensures.refs c.reserve.ensures.room c.reserve.ensures.temps

pub returns-clause-err : goal.returns-clause-err
returns-clause-err g c = seen-err c.reserve.result _ _ _ _ c.self.inside.references c.reserve.new.self _ _ c.self.view_is c.reserve.ensures.err
