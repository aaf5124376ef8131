use Rattle.std.proofs.Common.{◌<◌, length, [], ◌∙◌, ap, arith, Some}
use Rattle.std.proofs.lemmas.Option.{slice_get-get_or}
use Rattle.bridge_graph.specs.Packing.{packed_row, packed_rows}
use Rattle.bridge_graph.proofs.Rows.{row-of_map}
use Rattle.xref_list.proofs.Comps.{length-packed}
use Rattle.xref_list.proofs.components.Components.members_of.Goals as goal

pub packed_row-requires-clause-index : goal.packed_row-requires-clause-index
packed_row-requires-clause-index c =
    let r = rw (← c.self.view_is) at c.requires in
    omega (arith, length-packed c.self.inside.starts.items c.self.inside.members.items (length c.self.inside.starts.items))

pub returns-clause-members : goal.returns-clause-members
returns-clause-members c =
    let v = c.self.view_is in
    let r = rw (← v) at c.requires in
    let starts = c.self.inside.starts.items in
    let members = c.self.inside.members.items in
    let n = length-packed starts members (length starts) in
    let lt : c.args.c < length (packed_rows starts members (length starts)) = r in
    let e = rw (c.deref.ensures.value, c.deref-2.ensures.value) at c.packed_row.ensures in
    rw (← v, e) (slice_get-get_or (packed_rows starts members (length starts)) c.args.c [] lt
    ∙ ap (λ x. Some x) (row-of_map (packed_row starts members) (length starts) c.args.c (omega arith)))

pub returns-clause-some : goal.returns-clause-some
returns-clause-some c =
    let v = c.self.view_is in
    let r = rw (← v) at c.requires in
    let starts = c.self.inside.starts.items in
    let members = c.self.inside.members.items in
    let n = length-packed starts members (length starts) in
    let e = rw (c.deref.ensures.value, c.deref-2.ensures.value) at c.packed_row.ensures in
    let at = row-of_map (packed_row starts members) (length starts) c.args.c (omega arith) in
    omega (arith, ap length e, ap length at, c.self.invariant.listing.components.some c.args.c [] r)
