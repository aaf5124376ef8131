use Rattle.bridge_graph.proofs.Building.{part_of}
use Rattle.bridge_graph.proofs.builder.GraphBuilder.nodes.Goals as goal

pub returns-clause-part : goal.returns-clause-part
returns-clause-part c = rw (← c.self.view_is) (part_of _ _ _ _ _ _ c.self.invariant)
