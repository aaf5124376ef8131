-- What is seen of the rows has none.
use Rattle.std.proofs.Common.{refl}
use Rattle.managed_heap.proofs.rows.ManagedRows.recall_unpinned.Goals as goal

pub returns : goal.returns
returns c = rw (← c.self.view_is) refl
