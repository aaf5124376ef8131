use Rattle.global_handles.proofs.Slots.{RisesBetween-named}
use Rattle.global_handles.proofs.HandleTable.last.Goals as goal

pub returns-clause-rising : goal.returns-clause-rising
returns-clause-rising c = rw (← c.self.view_is) (RisesBetween-named 0 _ c.self.inside.slots.items _ c.self.invariant.rise)
