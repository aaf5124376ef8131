-- The registry answers as its pairs do.
use Rattle.managed_heap.proofs.Kept.{registered-is}
use Rattle.managed_heap.proofs.rows.ManagedRows.twin.Goals as goal

pub returns : goal.returns
returns c = rw (← c.self.view_is, c.twin.ensures.twin) (registered-is c.self.inside.registry c.args.p)
