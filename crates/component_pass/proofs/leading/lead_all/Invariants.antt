use Rattle.std.proofs.Common.{◌≡◌, ◌≤◌, false, length}
use Rattle.std.specs.List.{All}
use Rattle.component_pass.specs.Counting.{AreLed, cap}
use Rattle.component_pass.proofs.leading.lead_all.Given as goal

abbrev pub invariant-loop-c : goal.invariant-loop-c
invariant-loop-c l = record {
  led : AreLed l.graph.edges (length l.graph.nodes) l.found.labels.items l.indexes l.counts cap l.count l.c l.ins l.lists;
  within : l.c ≤ length l.found.rows;
  marks : length l.work.marks.items ≡ l.count;
  clear : All (λ m. m ≡ false) l.work.marks.items;
}

abbrev pub decreases-loop-c : goal.decreases-loop-c
decreases-loop-c l = l.c
