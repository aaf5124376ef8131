-- The references that wait are the carried mirror edges, whose ends are under strong handles.
use Rattle.joint_machine.specs.Components.{mirror_edges}
use Rattle.peer_heap.specs.Cycles.{reserve_more}
use Rattle.peer_mirror.proofs.Edges.{carried-strong, installed-ends}
use Rattle.peer_mirror.proofs.installing.install.Goals as goal

pub stand-requires-clause-strong_ends : goal.stand-requires-clause-strong_ends
stand-requires-clause-strong_ends g c =
    let v = c.args.comps.now in
    let nodes = c.args.graph.now.nodes in
    installed-ends c.args.side.now c.reserve_refs.new.self c.push_edges.new.side (reserve_more c.args.side.now.reserve c.refs.result c.heavy.result c.bridge_nodes-handles.result) nodes
    (mirror_edges v.comps v.pairs) c.in_ok-reserve_refs.ensures.ok c.push_edges.ensures
    (carried-strong c.args.side.now.state nodes v.comps v.heavy v.pairs c.recall_replays.ensures.kept c.requires.strong_ones c.len.ensures.listing c.requires.members)
