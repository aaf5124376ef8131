use Rattle.std.proofs.Common.{◌≡◌, take}
use Rattle.bridge_graph.specs.Parts.{numbers_of}
use Rattle.compare_pass.specs.Labelling.{Labels}
use Rattle.compare_pass.proofs.classes.label_row.Given as goal

abbrev pub invariant-loop-y : goal.invariant-loop-y
invariant-loop-y l = record {
  numbers : l.table.numbers ≡ numbers_of l.graph.nodes;
  labels : Labels (take l.y-index l.row) l.label l.initial.table.labels l.initial.waiting.items l.table.labels l.waiting.items;
}
