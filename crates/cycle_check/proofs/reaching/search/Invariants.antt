use Rattle.std.proofs.Common.{◌≡◌, ◌≤◌, ◌<◌, ℕ, [], get_or, vec_capacity}
use Rattle.reachability.specs.Marks.{HasMark, IsClosed, Leads}
use Rattle.cycle_check.proofs.reaching.search.Given as goal

abbrev pub invariant-loop-r : goal.invariant-loop-r
invariant-loop-r g l = record {
  closed : IsClosed (Leads (g.G.Walked.nodes l.g) (g.G.Walked.targets l.g)) l.marks;
  done : (j : ℕ) → j < l.r-index → HasMark l.marks (get_or l.roots j 0);
  away : HasMark l.marks l.y → ⊥;
  empty : l.waiting.items ≡ [];
  room : g.G.Walked.nodes l.g ≤ vec_capacity l.waiting;
}
