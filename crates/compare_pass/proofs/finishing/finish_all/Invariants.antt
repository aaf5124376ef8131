use Rattle.std.proofs.Common.{◌≡◌, ◌<◌, ℕ, true, false, [], length, get_or}
use Rattle.compare_pass.specs.Searches.{IsGoing}
use Rattle.compare_pass.proofs.finishing.finish_all.Given as goal

abbrev pub invariant-loop-root : goal.invariant-loop-root
invariant-loop-root l = record {
  going : IsGoing l.graph.edges (length l.graph.nodes) l.seen l.order.items [];
  frames : l.frames.items ≡ [];
  seen : (x : ℕ) → x < l.root → get_or l.seen x false ≡ true;
}
