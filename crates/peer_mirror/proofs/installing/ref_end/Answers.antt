-- The end of an edge is the node with the end's index, or the temporary that comes that far behind the components.
use Rattle.std.proofs.Common.{◌∙◌, sym}
use Rattle.peer_mirror.proofs.Edges.{node-carried, node-there, temp-carried, temp-there}
use Rattle.peer_mirror.proofs.installing.ref_end.Goals as goal

pub peer_at-requires-clause-node : goal.peer_at-requires-clause-node
peer_at-requires-clause-node c = node-there c.args.graph.now.nodes c.args.side.now.reserve.temps c.args.members c.in-Node.i c.requires.end.0 (sym c.in-Node.is ∙ c.requires.end.1) c.requires.end.2

pub overflow_sub-result : goal.overflow_sub-result
overflow_sub-result c = (temp-there c.args.graph.now.nodes c.args.side.now.reserve.temps c.args.members c.in-Temp.c c.requires.end.0 (sym c.in-Temp.is ∙ c.requires.end.1) c.requires.end.2).0

pub returns-in-Node-clause-carried : goal.returns-in-Node-clause-carried
returns-in-Node-clause-carried c = λ e q. node-carried c.args.side.now.state.peers.issued c.args.graph.now.nodes c.args.members c.in-Node.i c.peer_at.result.0 e
    (sym c.in-Node.is ∙ q) c.peer_at.ensures.peer

pub returns-in-Temp-clause-carried : goal.returns-in-Temp-clause-carried
returns-in-Temp-clause-carried c = λ e q. temp-carried c.args.side.now.state.peers.issued c.args.graph.now.nodes c.args.members c.in-Temp.c e (sym c.in-Temp.is ∙ q)

pub returns-in-Temp-clause-stands : goal.returns-in-Temp-clause-stands
returns-in-Temp-clause-stands c = (temp-there c.args.graph.now.nodes c.args.side.now.reserve.temps c.args.members c.in-Temp.c c.requires.end.0 (sym c.in-Temp.is ∙ c.requires.end.1) c.requires.end.2).1
