use Rattle.std.proofs.Common.{ℕ, ◌<◌}
use Rattle.cycle_check.specs.Walking.{IsLeftAt}
use Rattle.cycle_check.proofs.outcome.first_left.Given as goal

abbrev pub invariant-loop-y : goal.invariant-loop-y
invariant-loop-y l = (z : ℕ) → z < l.y → IsLeftAt l.kinds l.dead l.marks l.bridges z → ⊥
