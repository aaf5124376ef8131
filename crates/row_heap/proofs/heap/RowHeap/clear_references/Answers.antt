-- No reference is left.
use Rattle.std.proofs.Common.{ap}
use Rattle.row_heap.specs.Ends.{Linked}
use Rattle.row_heap.proofs.Sound.{AreReferences-none, IsRowHeap-other}
use Rattle.row_heap.proofs.heap.RowHeap.clear_references.Goals as goal

pub invariant_of-self : goal.invariant_of-self
invariant_of-self g c = (IsRowHeap-other _ _ _ _ _ _ _ _ _ c.self.invariant.0 (AreReferences-none _ _ _ (ap (λ (l : Linked). l.refs) c.clear.ensures)), c.self.invariant.1, c.self.invariant.2)
