use Rattle.std.proofs.Common.{◌≡◌, ◌*◌, ◌+◌, ℕ, true, false, length, get_or, reverse}
use Rattle.compare_pass.specs.Searches.{IsGoing, unseen}
use Rattle.compare_pass.proofs.finishing.finish_from.Given as goal

abbrev pub invariant-loop-frame : goal.invariant-loop-frame
invariant-loop-frame l = record {
  going : IsGoing l.graph.edges (length l.graph.nodes) l.seen l.order.items (reverse l.frames.items);
  root : get_or l.seen l.root false ≡ true;
  kept : (x : ℕ) → get_or l.fn.seen x false ≡ true → get_or l.seen x false ≡ true;
}

abbrev pub decreases-loop-frame : goal.decreases-loop-frame
decreases-loop-frame l = 2 * unseen l.seen + length l.frames.items
