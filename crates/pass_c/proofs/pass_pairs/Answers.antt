use Rattle.bridge_graph.specs.Parts.{IsBridgeNode, NodeLeads}
use Rattle.pass_c.proofs.Carried.{found-same, found_expanded-same, lacks-same, lacks_expanded-same}
use Rattle.pass_c.proofs.pass_pairs.Goals as goal
use Rattle.array_graphs.specs.Graphs.{HasEdge, IsBridgeAt}

pub returns-in-Ok-clause-done : goal.returns-in-Ok-clause-done
returns-in-Ok-clause-done c =
    let g = c.in-Ok.graph in
    let made = c.in-Ok.ensures.made in λ h z.
    found-same (IsBridgeNode g.nodes) (IsBridgeAt c.args.kinds.now) (NodeLeads g.edges) (HasEdge c.args.edges.now) made.bridges made.leads _ _ _ _ (c.answer.ensures.done h z)

pub returns-in-Ok-clause-no_room : goal.returns-in-Ok-clause-no_room
returns-in-Ok-clause-no_room c =
    let g = c.in-Ok.graph in
    let made = c.in-Ok.ensures.made in λ h z.
    lacks-same (IsBridgeNode g.nodes) (IsBridgeAt c.args.kinds.now) (NodeLeads g.edges) (HasEdge c.args.edges.now) made.bridges made.leads _ _ _ _ (c.answer.ensures.no_room h z)

pub returns-in-Ok-clause-done_in_pairs : goal.returns-in-Ok-clause-done_in_pairs
returns-in-Ok-clause-done_in_pairs c =
    let g = c.in-Ok.graph in
    let made = c.in-Ok.ensures.made in λ h z.
    found_expanded-same (IsBridgeNode g.nodes) (IsBridgeAt c.args.kinds.now) (NodeLeads g.edges) (HasEdge c.args.edges.now) made.bridges made.leads _ _ _ _ (c.answer.ensures.done_in_pairs h z)

pub returns-in-Ok-clause-no_room_in_pairs : goal.returns-in-Ok-clause-no_room_in_pairs
returns-in-Ok-clause-no_room_in_pairs c =
    let g = c.in-Ok.graph in
    let made = c.in-Ok.ensures.made in λ h z.
    lacks_expanded-same (IsBridgeNode g.nodes) (IsBridgeAt c.args.kinds.now) (NodeLeads g.edges) (HasEdge c.args.edges.now) made.bridges made.leads _ _ _ _ (c.answer.ensures.no_room_in_pairs h z)
