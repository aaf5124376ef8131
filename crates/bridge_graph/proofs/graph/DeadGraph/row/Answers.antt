-- The row in the flat lists is the row of the part.
use Rattle.std.proofs.Common.{ℕ, List, length, get_or, sym, subst, ◌∙◌}
use Rattle.std.specs.List.{Contains}
use Rattle.bridge_graph.specs.Packing.{packed_row}
use Rattle.bridge_graph.proofs.Rows.{row-of_map}
use Rattle.std.proofs.lemmas.List.Elements.{Contains-get_or}
use Rattle.bridge_graph.proofs.graph.DeadGraph.row.Goals as goal

pub returns-clause-row : goal.returns-clause-row
returns-clause-row c =
    let v = c.self.view_is in
    let r = rw (← v) at c.requires in
    let e = rw (c.deref.ensures.value, c.deref-2.ensures.value) at c.packed_row.ensures in
    rw (← v) (e ∙ sym (row-of_map (packed_row c.self.inside.starts.items c.self.inside.targets.items) (length c.self.inside.nodes.items) c.args.i r))

pub returns-clause-in_range : goal.returns-clause-in_range
returns-clause-in_range c =
    let v = c.self.view_is in
    let r = rw (← v) at c.requires in
    let row = packed_row c.self.inside.starts.items c.self.inside.targets.items c.args.i in
    let e = rw (c.deref.ensures.value, c.deref-2.ensures.value) at c.packed_row.ensures in
    let at = row-of_map (packed_row c.self.inside.starts.items c.self.inside.targets.items) (length c.self.inside.nodes.items) c.args.i r in
    rw (← v, e) (λ k d lt. c.self.invariant.part.in_range c.args.i (get_or row k d)
    (subst (λ (xs : List ℕ). Contains xs (get_or row k d)) (sym at) (Contains-get_or row k d lt)))
