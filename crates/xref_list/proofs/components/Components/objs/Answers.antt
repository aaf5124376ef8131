use Rattle.std.proofs.Common.{◌≡◌, length, arith}
use Rattle.xref_list.proofs.Comps.{length-packed}
use Rattle.bridge_graph.specs.Packing.{packed_rows}
use Rattle.xref_list.proofs.components.Components.objs.Goals as goal

pub members_of-requires : goal.members_of-requires
members_of-requires c = rw (← c.self.view_is) (omega (arith, length-packed c.self.inside.starts.items c.self.inside.members.items (length c.self.inside.starts.items), c.if-c-len.true, c.len.ensures))

pub returns-then-c-len-clause-none : goal.returns-then-c-len-clause-none
returns-then-c-len-clause-none c = λ le.
    let l = rw (← c.self.view_is) at le in
    absurd (omega (arith, l, length-packed c.self.inside.starts.items c.self.inside.members.items (length c.self.inside.starts.items), c.if-c-len.true, c.len.ensures))

pub returns-clause-members : goal.returns-clause-members
returns-clause-members c = λ lt.
    let l = rw (← c.self.view_is) at lt in
    absurd (omega (arith, l, length-packed c.self.inside.starts.items c.self.inside.members.items (length c.self.inside.starts.items), c.if-c-len.false, c.len.ensures))

pub returns-clause-some : goal.returns-clause-some
returns-clause-some c = λ lt.
    let l = rw (← c.self.view_is) at lt in
    absurd (omega (arith, l, length-packed c.self.inside.starts.items c.self.inside.members.items (length c.self.inside.starts.items), c.if-c-len.false, c.len.ensures))
