use Rattle.std.proofs.Common.{◌≡◌, take}
use Rattle.std.specs.List.{All}
use Rattle.bridge_graph.specs.Parts.{numbers_of}
use Rattle.compare_pass.specs.Tables.{table_of}
use Rattle.compare_pass.proofs.table.NodeTable.of.Given as goal

abbrev pub invariant-loop-x : goal.invariant-loop-x
invariant-loop-x l = record {
  numbers : (table_of l.entries.entries).numbers ≡ take l.x (numbers_of l.graph.nodes);
  labels : All (λ l. l ≡ 4294967295) (table_of l.entries.entries).labels;
}
