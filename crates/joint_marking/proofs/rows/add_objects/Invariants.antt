-- The edges of the objects so far are added.
use Rattle.joint_marking.specs.Nodes.{AddsEdges, ObjectEdge}
use Rattle.joint_marking.proofs.Edges.{BroughtBelow}
use Rattle.joint_marking.proofs.rows.add_objects.Given as goal

abbrev pub invariant-loop-x : goal.invariant-loop-x
invariant-loop-x g l = AddsEdges (BroughtBelow (ObjectEdge (g.G.JointWalked.graph l.g)) l.x) l.fn.rows l.rows
