-- What stands in a row is a node's index.
use Rattle.std.proofs.lemmas.List.Elements.{Contains-get_or}
use Rattle.bridge_graph.specs.Parts.{row_at}
use Rattle.bridge_graph.proofs.graph.DeadGraph.edge.Goals as goal

pub returns-clause-in_range : goal.returns-clause-in_range
returns-clause-in_range c =
    rw c.row.ensures.row (c.row.ensures.part.in_range c.args.i _ (Contains-get_or (row_at c.args.self.now.edges c.args.i) c.args.j 0 c.requires.edge))
