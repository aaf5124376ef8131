use Rattle.std.proofs.Common.{◌≡◌, ℕ, ◌<◌, true, false, get_or}
use Rattle.cycle_check.proofs.outcome.write_dead.Given as goal

abbrev pub invariant-loop-y : goal.invariant-loop-y
invariant-loop-y l = record {
  held : (k : ℕ) → k < l.y → get_or l.marks k false ≡ true → get_or l.dead k 0 ≡ 0;
  free : (k : ℕ) → k < l.y → get_or l.marks k false ≡ false → get_or l.dead k 0 ≡ 1;
}
