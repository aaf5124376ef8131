-- A component has members exactly where its index is below the number of starts.
use Rattle.std.proofs.Common.{◌≡◌, ◌≤◌, ◌<◌, length, arith, ◌∙◌, ap}
use Rattle.xref_list.proofs.Comps.{length-packed, end-node, end-temp}
use Rattle.xref_list.specs.declared.components.End.TheVariants.{Node}
use Rattle.xref_list.proofs.components.Components.end.Goals as goal

pub first-requires : goal.first-requires
first-requires c = rw (← c.self.view_is) (omega (arith, length-packed c.self.inside.starts.items c.self.inside.members.items (length c.self.inside.starts.items), c.if-c-len.true, c.len.ensures))

pub returns-then-c-len : goal.returns-then-c-len
returns-then-c-len c =
    let l : c.args.c < length c.args.self.now.comps = rw (← c.self.view_is)
    (omega (arith, length-packed c.self.inside.starts.items c.self.inside.members.items (length c.self.inside.starts.items), c.if-c-len.true, c.len.ensures)) in
    ap Node c.first.ensures ∙ end-node c.args.self.now.comps c.args.c l

pub returns : goal.returns
returns c =
    let l : length c.args.self.now.comps ≤ c.args.c = rw (← c.self.view_is)
    (omega (arith, length-packed c.self.inside.starts.items c.self.inside.members.items (length c.self.inside.starts.items), c.if-c-len.false, c.len.ensures)) in
    end-temp c.args.self.now.comps c.args.c l
