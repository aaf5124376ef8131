use Rattle.joint_laws.proofs.Mirrors.{walks_follow}
use Rattle.joint_laws.proofs.graphs.walks_follow_mirror_edges.Goals as goal

pub returns : goal.returns
returns g c = walks_follow g.G.EdgeGraph.bridge g.G.EdgeGraph.edge
