use Rattle.std.proofs.Common.{◌≡◌, ℕ, false, length, take}
use Rattle.std.specs.List.{All, Contains}
use Rattle.bridge_graph.specs.Parts.{row_at}
use Rattle.component_pass.specs.Counting.{Pushes, cap}
use Rattle.component_pass.proofs.leading.lead_class.Given as goal

abbrev pub invariant-loop-x : goal.invariant-loop-x
invariant-loop-x l = record {
  pushes : Pushes l.found.labels.items l.indexes l.counts cap l.count l.own l.number
      (λ v. (u : ℕ) × Contains (take l.x-index (row_at l.found.rows l.own)) u × Contains (row_at l.graph.edges u) v) l.initial.ins l.initial.lists l.ins l.lists;
  marks : length l.work.marks.items ≡ l.count;
  clear : All (λ m. m ≡ false) l.work.marks.items;
}
