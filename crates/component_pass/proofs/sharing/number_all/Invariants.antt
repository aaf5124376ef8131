use Rattle.std.proofs.Common.{◌≡◌, ◌+◌, false, length}
use Rattle.std.specs.List.{All}
use Rattle.component_pass.specs.Gathering.{AreSets, HasNoMarks}
use Rattle.component_pass.specs.Sharing.{AreShared, AreReferred}
use Rattle.component_pass.proofs.sharing.number_all.Given as goal

abbrev pub invariant-loop-c : goal.invariant-loop-c
invariant-loop-c l = record {
  shared : AreShared l.graph.edges (length l.graph.nodes) l.fn.sets l.indexes l.thin l.count l.c l.sets l.lists;
  referred : AreReferred (length l.graph.nodes) l.graph.edges l.fn.sets l.indexes l.count l.c (l.count + length l.lists) l.refs l.lists;
  valid : AreSets l.sets l.lists l.count (length l.work.known.items);
  work_marks : length l.work.marks.items ≡ l.count;
  clear : HasNoMarks l.work;
  size : length l.marks ≡ length l.graph.nodes;
  unmarked : All (λ m. m ≡ false) l.marks;
}
