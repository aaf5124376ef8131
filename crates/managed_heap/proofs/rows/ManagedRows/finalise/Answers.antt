-- The room for notices stays.
use Rattle.managed_heap.proofs.rows.ManagedRows.finalise.Goals as goal

pub invariant_of-self : goal.invariant_of-self
invariant_of-self c = rw c.take_notices.ensures.spare c.self.invariant
