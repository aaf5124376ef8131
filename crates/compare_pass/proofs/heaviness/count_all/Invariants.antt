use Rattle.std.proofs.Common.{◌≡◌, [], false, length}
use Rattle.std.specs.List.{All}
use Rattle.compare_pass.specs.Counting.{AreCounts}
use Rattle.compare_pass.proofs.heaviness.count_all.Given as goal

abbrev pub invariant-loop-stand : goal.invariant-loop-stand
invariant-loop-stand l = record {
  clear : All (λ m. m ≡ false) l.marks;
  found : l.found.items ≡ [];
  counts : AreCounts l.graph.edges (length l.graph.nodes) l.labels l.indexes l.stands l.stand-index l.counts;
}
