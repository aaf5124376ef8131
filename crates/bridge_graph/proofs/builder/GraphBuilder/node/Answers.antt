use Rattle.std.proofs.Common.{length, refl, arith, inl, inr}
use Rattle.std.proofs.lemmas.List.{length_push}
use Rattle.bridge_graph.specs.declared.graph.Node.{Node}
use Rattle.bridge_graph.proofs.Rows.{rows-node}
use Rattle.bridge_graph.proofs.Building.{building-node, none_new}
use Rattle.joint_machine.proofs.Results.{at_error}
use Rattle.bridge_graph.proofs.Room.{nodes-none, nodes-pushed}
use Rattle.bridge_graph.proofs.builder.GraphBuilder.node.Goals as goal

pub invariant_of-self-2 : goal.invariant_of-self-2
invariant_of-self-2 c =
    let node : Node = record { number = c.args.number; handle = c.args.handle; opaque = c.args.opaque } in
    let v = c.self.view_is in
    let r = rw (← v) at c.requires in
    rw (c.push_reserved.ensures.items, c.push_reserved-2.ensures.items, c.reserve.ensures.items, c.reserve-2.ensures.items)
    (building-node c.self.inside.nodes.items c.self.inside.firsts.items c.self.inside.links.items c.self.inside.nexts.items c.self.inside.targets.items _ node c.self.invariant r.rising r.few)

pub returns-clause-edges : goal.returns-clause-edges
returns-clause-edges c =
    rw (← c.self.view_is, c.push_reserved.ensures.items, c.reserve.ensures.items, length_push)
    (rows-node c.self.inside.links.items (length c.self.inside.nodes.items) (none_new c.self.inside.nodes.items c.self.inside.links.items c.self.invariant.joins))

pub returns-in_err-reserve-clause-room : goal.returns-in_err-reserve-clause-room
returns-in_err-reserve-clause-room c =
    at_error c.from_residual.result (rw (← c.self.view_is) (nodes-none _ _ _ (inl (omega (arith, c.in_err-reserve.ensures.full)))))

pub returns-in_err-reserve-clause-spare_edges : goal.returns-in_err-reserve-clause-spare_edges
returns-in_err-reserve-clause-spare_edges c = rw (← c.self.view_is) refl

pub returns-in_err-reserve-2-clause-room : goal.returns-in_err-reserve-2-clause-room
returns-in_err-reserve-2-clause-room c =
    at_error c.from_residual-in_err-reserve-2.result (rw (← c.self.view_is) (nodes-none _ _ _ (inr (omega (arith, c.in_err-reserve-2.ensures.full, c.self.invariant.firsts)))))

pub returns-in_err-reserve-2-clause-spare_edges : goal.returns-in_err-reserve-2-clause-spare_edges
returns-in_err-reserve-2-clause-spare_edges c = rw (← c.self.view_is) refl

pub returns-clause-room : goal.returns-clause-room
returns-clause-room c = tt

pub returns-clause-spare_edges : goal.returns-clause-spare_edges
returns-clause-spare_edges c = rw (← c.self.view_is) refl

pub returns-clause-spare_nodes : goal.returns-clause-spare_nodes
returns-clause-spare_nodes c =
    rw (← c.self.view_is)
    (nodes-pushed _ _ _ _ _ _ (omega (arith, c.reserve.ensures.capacity, c.push_reserved.ensures.capacity)) (omega (arith, c.reserve-2.ensures.capacity, c.push_reserved-2.ensures.capacity))
    (omega (arith, c.reserve.ensures.len, c.push_reserved.ensures.len)))
