use Rattle.std.proofs.Common.{◌≡◌, IfSome, take}
use Rattle.joint_machine.specs.Components.{mirror_edges}
use Rattle.peer_mirror.specs.Carried.{IsCarried, carried_to_peers, with_pushed}
use Rattle.peer_heap.specs.Mirroring.{end_of as ref_end}
use Rattle.peer_mirror.proofs.installing.push_edges.Given as goal

abbrev pub invariant-loop-i : goal.invariant-loop-i
invariant-loop-i l = record {
  pushed : l.side ≡ with_pushed l.initial.side (carried_to_peers l.initial.side.state.peers.issued l.graph.nodes (take l.i (mirror_edges l.comps.comps l.comps.pairs)));
  last : IfSome l.last (λ z. IsCarried l.side l.graph.nodes l.members z.0 (ref_end z.1));
}
