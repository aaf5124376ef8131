use Rattle.std.proofs.Common.{◌≡◌, false, length}
use Rattle.std.specs.List.{All}
use Rattle.component_pass.specs.Grouping.{AreListed, links_of}
use Rattle.component_pass.proofs.Rows.{AreUnset}
use Rattle.component_pass.proofs.listing.list_all.Given as goal

abbrev pub invariant-loop-x : goal.invariant-loop-x
invariant-loop-x l = record {
  listed : AreListed l.graph.nodes l.labels (links_of l.graph.nodes l.labels) l.x l.builder.comps l.indexes;
  unset : AreUnset (links_of l.graph.nodes l.labels) l.x l.indexes;
  heavy : l.builder.heavy ≡ 0;
  pairs : l.builder.pairs ≡ l.initial.builder.pairs;
  size : length l.indexes ≡ length l.initial.indexes;
  clear : All (λ m. m ≡ false) l.marks;
}
