-- The list has the objects' nodes and then the peers'.
use Rattle.std.proofs.Common.{refl}
use Rattle.joint_marking.proofs.Reaching.{roots-exact, roots-live}
use Rattle.joint_marking.proofs.found.root_nodes.Goals as goal

pub push_peers-requires : goal.push_peers-requires
push_peers-requires g c = roots-live (g.G.JointWalked.graph c.args.g.now) c.args.peers.now c.requires.peers

pub returns : goal.returns
returns g c = roots-exact (g.G.JointWalked.graph c.args.g.now) c.args.objects.now c.args.peers.now c.push_peers.new.nodes.items c.requires.objects c.requires.peers
    (rw (c.in_ok-push_peers.ensures, c.in_ok-push_objects.ensures, c.new-nodes.ensures.items) refl)
