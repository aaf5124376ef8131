use Rattle.std.proofs.Common.{◌≡◌, ◌+◌, length}
use Rattle.bridge_graph.specs.Parts.{numbers_of}
use Rattle.compare_pass.specs.Labelling.{IsSpreading, bare}
use Rattle.compare_pass.proofs.classes.label_class.Given as goal

abbrev pub invariant-loop-x : goal.invariant-loop-x
invariant-loop-x l = record {
  numbers : l.table.numbers ≡ numbers_of l.graph.nodes;
  spreading : IsSpreading l.graph.edges l.root l.fn.table.labels l.table.labels l.waiting.items;
}

abbrev pub decreases-loop-x : goal.decreases-loop-x
decreases-loop-x l = bare l.table.labels + length l.waiting.items
