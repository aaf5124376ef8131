-- No reference stands.
use Rattle.row_heap.proofs.Linked.{AreLinked-none}
use Rattle.row_heap.proofs.references.References.new.Goals as goal

pub invariant_of-result : goal.invariant_of-result
invariant_of-result c = AreLinked-none _ _ _ _ _ _ _ c.new.ensures.items c.new-2.ensures.items c.new-3.ensures.items c.new-4.ensures.items c.new-5.ensures.items
