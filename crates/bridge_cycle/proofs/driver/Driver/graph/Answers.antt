use Rattle.bridge_cycle.proofs.OpenParts.{graph_seen}
use Rattle.bridge_cycle.proofs.driver.Driver.graph.Goals as goal

pub returns-clause-graph : goal.returns-clause-graph
returns-clause-graph g c = graph_seen c.self.view_is c.self.invariant.1 c.in_ok-opened.ensures.some
