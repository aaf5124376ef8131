-- The rows begin empty, and get the edges of the objects and then those of the peers.
use Rattle.joint_marking.proofs.Reaching.{HasEdges-from}
use Rattle.joint_marking.proofs.rows.joint_rows.Goals as goal

pub returns : goal.returns
returns g c = HasEdges-from (g.G.JointWalked.graph c.args.g.now) _ _ _ (rw (c.objects.ensures.made, c.peers.ensures.made) at c.in_ok-rows.ensures) c.in_ok-add_objects.ensures c.in_ok-add_peers.ensures
