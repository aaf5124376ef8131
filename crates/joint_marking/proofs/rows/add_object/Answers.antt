-- The fields' edges are added, and then the two of the twin, if there is one.
use Rattle.std.proofs.Common.{refl}
use Rattle.joint_marking.proofs.Edges.{Object-twin, Object-alone}
use Rattle.joint_marking.proofs.rows.add_object.Goals as goal

pub peer_node-requires : goal.peer_node-requires
peer_node-requires g c = ((c.in-Some.ensures c.in-Some.p.0).0 refl).live

pub returns-in_ok-link : goal.returns-in_ok-link
returns-in_ok-link g c = Object-twin (g.G.JointWalked.graph c.args.g.now) c.args.x.0 c.in-Some.p.0 _ _ _
    c.in-Some.ensures c.in_ok-add_object_fields.ensures (rw c.peer_node.ensures.node at c.in_ok-link.ensures)

pub returns-in_default : goal.returns-in_default
returns-in_default g c = Object-alone (g.G.JointWalked.graph c.args.g.now) c.args.x.0 _ _ c.in_default.ensures c.in_ok-add_object_fields.ensures
