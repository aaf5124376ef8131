-- The node's handle is strong, so it leads to its peer.
use Rattle.std.proofs.Common.{sym, ap, ◌∙◌, subst}
use Rattle.joint_machine.specs.Heaps.{IsLive}
use Rattle.joint_machine.proofs.Deciding.{none_some}
use Rattle.peer_heap.specs.Rows.{number_of}
use Rattle.peer_mirror.proofs.Nodes.{peer_of_node-is, same-peer, strong-node, target-is}
use Rattle.peer_mirror.proofs.installing.peer_at.Goals as goal

pub unreachable-requires-in_default-target : goal.unreachable-requires-in_default-target
unreachable-requires-in_default-target c =
    let s = c.args.side.now.state in
    let n = strong-node s c.args.graph.now.nodes c.args.i c.recall_replays.ensures.kept c.requires.strong_ones c.requires.node in
    none_some n.peer (ap number_of (sym c.in_default-target.is)
    ∙ target-is s c.args.graph.now.nodes c.args.i c.in-Some.h c.target.result n c.in-Some.ensures (c.handles.ensures.targets c.in-Some.h ∙ ap number_of (sym c.target.ensures)))

pub returns-clause-peer : goal.returns-clause-peer
returns-clause-peer c =
    let s = c.args.side.now.state in
    let nodes = c.args.graph.now.nodes in
    let n = strong-node s nodes c.args.i c.recall_replays.ensures.kept c.requires.strong_ones c.requires.node in
    same-peer s nodes c.args.i c.in-Some.h c.target.result n c.in-Some.ensures (c.handles.ensures.targets c.in-Some.h ∙ ap number_of (sym c.target.ensures)) c.in-Some-target.p c.in-Some-target.is
    ∙ sym (peer_of_node-is s nodes c.args.i n)

pub returns-clause-live : goal.returns-clause-live
returns-clause-live c =
    let s = c.args.side.now.state in
    let nodes = c.args.graph.now.nodes in
    let n = strong-node s nodes c.args.i c.recall_replays.ensures.kept c.requires.strong_ones c.requires.node in
    subst (IsLive s.peers.heap) (sym (same-peer s nodes c.args.i c.in-Some.h c.target.result n c.in-Some.ensures
    (c.handles.ensures.targets c.in-Some.h ∙ ap number_of (sym c.target.ensures)) c.in-Some-target.p c.in-Some-target.is)) n.live
