use Rattle.joint_laws.proofs.Mirrors.{mirror_edges_follow}
use Rattle.joint_laws.proofs.graphs.mirror_edges_follow_walks.Goals as goal

pub returns : goal.returns
returns g c = mirror_edges_follow g.G.EdgeGraph.bridge g.G.EdgeGraph.edge
