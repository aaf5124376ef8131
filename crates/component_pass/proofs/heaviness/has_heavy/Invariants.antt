use Rattle.std.proofs.Common.{◌≡◌, ◌<◌, ℕ, get_or}
use Rattle.component_pass.specs.Reporting.{AreMany}
use Rattle.component_pass.proofs.heaviness.has_heavy.Given as goal

abbrev pub invariant-loop-l : goal.invariant-loop-l
invariant-loop-l s = record {
  none : (k : ℕ) → k < s.l → get_or s.indexes k 0 ≡ 4294967295 → AreMany (get_or s.ins k 0) (get_or s.outs k 0) → ⊥;
}
