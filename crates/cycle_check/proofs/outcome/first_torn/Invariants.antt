use Rattle.std.proofs.Common.{ℕ, ◌<◌}
use Rattle.cycle_check.specs.Walking.{IsTornAt}
use Rattle.cycle_check.proofs.outcome.first_torn.Given as goal

abbrev pub invariant-loop-y : goal.invariant-loop-y
invariant-loop-y l = (z : ℕ) → z < l.y → IsTornAt l.kinds l.kept l.marks z → ⊥
