use Rattle.std.proofs.Common.{◌≡◌, ◌≢◌, ◌<◌, ℕ, [], length, get_or}
use Rattle.component_pass.specs.Tarjan.{IsGoing}
use Rattle.component_pass.proofs.tarjan.visit_all.Given as goal

abbrev pub invariant-loop-root : goal.invariant-loop-root
invariant-loop-root l = record {
  going : IsGoing l.graph.edges (length l.graph.nodes) l.stack.items l.marks l.labels l.rows [];
  frames : l.frames.items ≡ [];
  seen : (x : ℕ) → x < l.root → get_or l.marks x 0 ≢ 0;
}
