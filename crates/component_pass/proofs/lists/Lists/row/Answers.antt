use Rattle.std.proofs.Common.{◌∙◌, length, sym, arith}
use Rattle.std.proofs.lemmas.List.FromFn.{length-map-range_with_len}
use Rattle.bridge_graph.specs.Packing.{packed_row}
use Rattle.bridge_graph.proofs.Rows.{row-of_map}
use Rattle.component_pass.proofs.lists.Lists.row.Goals as goal

pub cut_row-requires-clause-index : goal.cut_row-requires-clause-index
cut_row-requires-clause-index c =
    let r = rw (← c.self.view_is) at c.requires in
    omega (arith, length-map-range_with_len (packed_row c.self.inside.starts.items c.self.inside.items.items) 0 (length c.self.inside.starts.items))

pub returns : goal.returns
returns c =
    let r = rw (← c.self.view_is) at c.requires in
    let starts = c.self.inside.starts.items in
    let n = length-map-range_with_len (packed_row starts c.self.inside.items.items) 0 (length starts) in
    let e = rw (c.deref.ensures.value, c.deref-2.ensures.value) at c.cut_row.ensures in
    rw (← c.self.view_is) (e ∙ sym (row-of_map (packed_row starts c.self.inside.items.items) (length starts) c.args.i (omega arith)))
