use Rattle.std.proofs.Common.{length, arith}
use Rattle.xref_list.proofs.Comps.{length-packed}
use Rattle.xref_list.proofs.components.ComponentsBuilder.len.Goals as goal

pub returns-clause-count : goal.returns-clause-count
returns-clause-count c = rw (← c.self.view_is) (omega (arith, length-packed c.self.inside.starts.items c.self.inside.members.items (length c.self.inside.starts.items)))

pub returns-clause-few : goal.returns-clause-few
returns-clause-few c = rw (← c.self.view_is, length-packed c.self.inside.starts.items c.self.inside.members.items (length c.self.inside.starts.items)) c.self.invariant.room
