use Rattle.std.proofs.Common.{length, arith}
use Rattle.xref_list.proofs.Comps.{length-packed}
use Rattle.xref_list.proofs.components.Components.len.Goals as goal

pub returns-clause-count : goal.returns-clause-count
returns-clause-count c = rw (← c.self.view_is) (omega (arith, length-packed c.self.inside.starts.items c.self.inside.members.items (length c.self.inside.starts.items)))

pub overflow_add-result : goal.overflow_add-result
overflow_add-result c = (let few = c.self.invariant.listing.few in
    omega (arith, few, length-packed c.self.inside.starts.items c.self.inside.members.items (length c.self.inside.starts.items), c.len.ensures))
