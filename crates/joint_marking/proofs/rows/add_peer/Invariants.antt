-- The edges of the places so far are added.
use Rattle.std.proofs.Common.{◌+◌}
use Rattle.joint_machine.specs.Heaps.{IsLive, fields_of}
use Rattle.joint_marking.specs.Nodes.{AddsEdges, objects_in}
use Rattle.joint_marking.proofs.Edges.{PlacesBelow}
use Rattle.joint_marking.proofs.rows.add_peer.Given as goal

abbrev pub invariant-loop-i : goal.invariant-loop-i
invariant-loop-i g l =
    let both = g.G.JointWalked.graph l.g in
    AddsEdges (PlacesBelow (IsLive both.peers.heap) (λ q. objects_in both + q) l.p.0 (fields_of both.peers.heap l.p.0) l.i) l.fn.rows l.rows
