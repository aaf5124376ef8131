-- The edges of the peers so far are added.
use Rattle.joint_marking.specs.Nodes.{AddsEdges, PeerEdge}
use Rattle.joint_marking.proofs.Edges.{BroughtBelow}
use Rattle.joint_marking.proofs.rows.add_peers.Given as goal

abbrev pub invariant-loop-p : goal.invariant-loop-p
invariant-loop-p g l = AddsEdges (BroughtBelow (PeerEdge (g.G.JointWalked.graph l.g)) l.p) l.fn.rows l.rows
