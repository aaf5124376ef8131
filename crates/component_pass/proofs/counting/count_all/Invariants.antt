use Rattle.std.proofs.Common.{◌≡◌, ◌+◌, ◌<◌, ℕ, length, get_or}
use Rattle.component_pass.specs.Counting.{IsCount, cap}
use Rattle.component_pass.specs.Gathering.{AreSets, HasNoMarks}
use Rattle.component_pass.specs.Sharing.{AreCounted, AreReferred, Leaves}
use Rattle.component_pass.proofs.counting.count_all.Given as goal

abbrev pub invariant-loop-c : goal.invariant-loop-c
invariant-loop-c l = record {
  counted : AreCounted l.graph.edges (length l.graph.nodes) l.found.labels.items l.indexes cap l.left l.count l.c l.sets l.lists;
  counts : (k : ℕ) → k < l.c → IsCount (Leaves l.graph.edges (length l.graph.nodes) l.found.labels.items l.indexes k) cap (get_or l.counts k 0);
  referred : 0 < l.left → AreReferred (length l.graph.nodes) l.graph.edges l.found.labels.items l.indexes l.count l.c (l.count + length l.lists) l.refs l.lists;
  valid : AreSets l.sets l.lists l.count (length l.work.known.items);
  size : length l.counts ≡ length l.found.rows;
  refs : length l.refs ≡ l.count;
  marks : length l.work.marks.items ≡ l.count;
  clear : HasNoMarks l.work;
}
