use Rattle.component_pass.specs.Counting.{cap}
use Rattle.std.proofs.Common.{◌≡◌, ◌<◌, ◌≤◌, ℕ, length, min, get_or}
use Rattle.component_pass.specs.Gathering.{set_at}
use Rattle.component_pass.proofs.leading.put_sizes.Given as goal

abbrev pub invariant-loop-l : goal.invariant-loop-l
invariant-loop-l s = record {
  size : length s.ins ≡ length s.initial.ins;
  done : (k : ℕ) → k < s.l → 3 ≤ get_or s.counts k 0 → get_or s.ins k 0 ≡ min (length (set_at s.count s.lists (get_or s.initial.ins k 0))) cap;
  rest : (k : ℕ) → s.l ≤ k → get_or s.ins k 0 ≡ get_or s.initial.ins k 0;
}
