use Rattle.std.proofs.Common.{take}
use Rattle.array_graphs.specs.Graphs.{AreEdges}
use Rattle.array_graphs.proofs.graphs.are_edges.Given as goal

abbrev pub invariant-loop-e : goal.invariant-loop-e
invariant-loop-e l = AreEdges l.nodes (take l.e-index l.edges)
