-- The rows rise, so each is that of one place of the table.
use Rattle.std.proofs.Common.{sym, ◌∙◌}
use Rattle.peer_heap.proofs.Tabled.{rows-tabled}
use Rattle.peer_heap.proofs.rows.PeerRows.tabled.Goals as goal

pub returns-clause-counted : goal.returns-clause-counted
returns-clause-counted c = rw (← c.self.view_is) (c.len.ensures.len ∙ sym (rows-tabled c.self.inside.table.last c.self.inside.table.rows c.self.invariant.rising))
