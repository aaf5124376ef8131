use Rattle.std.proofs.Common.{length, refl, ap, arith, inl, inr}
use Rattle.bridge_graph.specs.declared.packing.Link.{Link}
use Rattle.bridge_graph.specs.Built.{Joins}
use Rattle.bridge_graph.proofs.Rows.{rows-link}
use Rattle.bridge_graph.proofs.Building.{building-link}
use Rattle.joint_machine.proofs.Results.{at_error}
use Rattle.bridge_graph.proofs.Room.{edges-most, edges-none, edges-pushed}
use Rattle.bridge_graph.proofs.builder.GraphBuilder.edge.Goals as goal

pub invariant_of-self-2 : goal.invariant_of-self-2
invariant_of-self-2 c =
    let v = c.self.view_is in
    let r = rw (← v) at c.requires in
    let i = c.self.invariant in
    let link : Link = record { from = c.args.from; to = c.args.to } in
    let joins : Joins c.self.inside.nodes.items link = record { from = r.from; to = r.to; transparent = r.open } in
    rw (c.push_reserved.ensures.items, c.push_reserved-2.ensures.items, c.reserve.ensures.items, c.reserve-2.ensures.items, c.reserve-3.ensures.items)
    (building-link c.self.inside.nodes.items c.self.inside.firsts.items c.self.inside.links.items c.self.inside.nexts.items c.self.inside.targets.items
    _ _ link 0 i joins (omega arith) (omega (arith, c.in_ok-reserve-3.ensures.ok)))

pub returns-clause-edges : goal.returns-clause-edges
returns-clause-edges c =
    let v = c.self.view_is in
    let r = rw (← v) at c.requires in
    let link : Link = record { from = c.args.from; to = c.args.to } in
    rw (← v, c.push_reserved.ensures.items, c.reserve.ensures.items) (rows-link c.self.inside.links.items link (length c.self.inside.nodes.items) r.from)

pub returns-then-len-ge-MOST_EDGES-clause-room : goal.returns-then-len-ge-MOST_EDGES-clause-room
returns-then-len-ge-MOST_EDGES-clause-room c = rw (← c.self.view_is) (edges-most _ _ (omega (arith, c.if-len-ge-MOST_EDGES.true, c.len.ensures)))

pub returns-then-len-ge-MOST_EDGES-clause-spare_nodes : goal.returns-then-len-ge-MOST_EDGES-clause-spare_nodes
returns-then-len-ge-MOST_EDGES-clause-spare_nodes c = refl

pub returns-in_err-reserve-clause-room : goal.returns-in_err-reserve-clause-room
returns-in_err-reserve-clause-room c =
    at_error c.from_residual.result (rw (← c.self.view_is) (edges-none _ _ _ _ (inl (omega (arith, c.in_err-reserve.ensures.full)))))

pub returns-in_err-reserve-clause-spare_nodes : goal.returns-in_err-reserve-clause-spare_nodes
returns-in_err-reserve-clause-spare_nodes c = rw (← c.self.view_is) refl

pub returns-in_err-reserve-2-clause-room : goal.returns-in_err-reserve-2-clause-room
returns-in_err-reserve-2-clause-room c =
    at_error c.from_residual-in_err-reserve-2.result (rw (← c.self.view_is) (edges-none _ _ _ _ (inr (inl (omega (arith, c.in_err-reserve-2.ensures.full, c.self.invariant.nexts))))))

pub returns-in_err-reserve-2-clause-spare_nodes : goal.returns-in_err-reserve-2-clause-spare_nodes
returns-in_err-reserve-2-clause-spare_nodes c = rw (← c.self.view_is) refl

pub returns-in_err-reserve-3-clause-room : goal.returns-in_err-reserve-3-clause-room
returns-in_err-reserve-3-clause-room c =
    let full = c.in_err-reserve-3.ensures.full in
    at_error c.from_residual-in_err-reserve-3.result
    (rw (← c.self.view_is) (edges-none _ _ _ _ (inr (inr (omega (arith, full, ap length c.self.invariant.empty, c.len-2.ensures, c.reserve.ensures.len))))))

pub returns-in_err-reserve-3-clause-spare_nodes : goal.returns-in_err-reserve-3-clause-spare_nodes
returns-in_err-reserve-3-clause-spare_nodes c = rw (← c.self.view_is) refl

pub returns-clause-room : goal.returns-clause-room
returns-clause-room c = tt

pub returns-clause-spare_nodes : goal.returns-clause-spare_nodes
returns-clause-spare_nodes c = rw (← c.self.view_is) refl

pub returns-clause-spare_edges : goal.returns-clause-spare_edges
returns-clause-spare_edges c =
    rw (← c.self.view_is)
    (edges-pushed _ _ _ _ _ _ _ _ (omega (arith, c.reserve.ensures.capacity, c.push_reserved.ensures.capacity)) (omega (arith, c.reserve-2.ensures.capacity, c.push_reserved-2.ensures.capacity))
    c.reserve-3.ensures.capacity (omega (arith, c.reserve.ensures.len, c.push_reserved.ensures.len)))
