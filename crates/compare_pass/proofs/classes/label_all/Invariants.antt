use Rattle.std.proofs.Common.{◌≡◌, ◌≤◌, [], length}
use Rattle.bridge_graph.specs.Parts.{numbers_of}
use Rattle.compare_pass.specs.Labelling.{AreLabelled}
use Rattle.compare_pass.proofs.classes.label_all.Given as goal

abbrev pub invariant-loop-left : goal.invariant-loop-left
invariant-loop-left l = record {
  within : l.left ≤ length l.order;
  numbers : l.table.numbers ≡ numbers_of l.graph.nodes;
  labels : AreLabelled l.graph.edges (length l.graph.nodes) l.order l.left l.table.labels;
  waiting : l.waiting.items ≡ [];
}

abbrev pub decreases-loop-left : goal.decreases-loop-left
decreases-loop-left l = l.left
