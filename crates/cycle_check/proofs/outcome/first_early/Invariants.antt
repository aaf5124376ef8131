use Rattle.std.proofs.Common.{ℕ, ◌<◌}
use Rattle.cycle_check.specs.Walking.{IsEarlyAt}
use Rattle.cycle_check.proofs.outcome.first_early.Given as goal

abbrev pub invariant-loop-y : goal.invariant-loop-y
invariant-loop-y l = (z : ℕ) → z < l.y → IsEarlyAt l.kinds l.dead l.marks l.bridges z → ⊥
