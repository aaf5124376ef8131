-- No end has a reference.
use Rattle.row_heap.proofs.Linked.{AreLinked-cleared}
use Rattle.row_heap.proofs.references.References.clear.Goals as goal

pub invariant_of-self : goal.invariant_of-self
invariant_of-self c = AreLinked-cleared _ _ _ _ _ _ _ _ _ _ _ _ _ c.self.invariant c.clear.ensures.items c.clear_firsts.ensures.len
    (rw c.as_slice.ensures.value at c.clear_firsts.ensures.cleared) c.clear.ensures.capacity c.clear_firsts.ensures.room
