use Rattle.std.proofs.Common.{◌≡◌, ◌<◌, ℕ, get_or}
use Rattle.component_pass.proofs.heaviness.has_wide.Given as goal

abbrev pub invariant-loop-l : goal.invariant-loop-l
invariant-loop-l s = record {
  none : (k : ℕ) → k < s.l → get_or s.indexes k 0 ≡ 4294967295 → get_or s.counts k 0 < 3;
}
