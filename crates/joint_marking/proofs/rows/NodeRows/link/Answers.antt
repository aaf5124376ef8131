-- Two edges are added, one after the other.
use Rattle.joint_marking.proofs.Edges.{AddsEdges-round}
use Rattle.joint_marking.proofs.rows.NodeRows.link.Goals as goal

pub returns : goal.returns
returns c = AddsEdges-round c.args.k c.args.j _ _ _ c.in_ok-add.ensures.adds c.in_ok-add-2.ensures.adds
