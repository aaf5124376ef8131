use Rattle.std.proofs.Common.{◌≡◌, ◌≢◌, ◌*◌, ◌+◌, ℕ, [], length, get_or, reverse, IfNone}
use Rattle.component_pass.specs.Tarjan.{IsGoing, unseen, with_current}
use Rattle.component_pass.proofs.tarjan.walk.Given as goal

abbrev pub invariant-loop-current : goal.invariant-loop-current
invariant-loop-current l = record {
  going : IsGoing l.graph.edges (length l.graph.nodes) l.stack.items l.marks l.labels l.rows (with_current l.current (reverse l.frames.items));
  none : IfNone l.current (l.frames.items ≡ []);
  root : get_or l.marks l.root 0 ≢ 0;
  kept : (x : ℕ) → get_or l.fn.marks x 0 ≢ 0 → get_or l.marks x 0 ≢ 0;
}

abbrev pub decreases-loop-current : goal.decreases-loop-current
decreases-loop-current l = 2 * unseen l.marks + length (with_current l.current l.frames.items)
