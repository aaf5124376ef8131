use Rattle.std.proofs.Common.{ℕ, ◌<◌, ◌↔◌}
use Rattle.std.specs.List.{Contains}
use Rattle.cycle_check.specs.Judging.{IsKept}
use Rattle.cycle_check.proofs.outcome.list_kept.Given as goal

abbrev pub invariant-loop-x : goal.invariant-loop-x
invariant-loop-x l = (d : ℕ) → Contains l.listed.items d ↔ ((d < l.x) × IsKept l.kinds l.kept d)
