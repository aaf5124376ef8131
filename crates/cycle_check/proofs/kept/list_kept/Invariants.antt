use Rattle.std.proofs.Common.{ℕ, ◌<◌, ◌↔◌}
use Rattle.std.specs.List.{Contains}
use Rattle.cycle_check.specs.Walking.{HasKept}
use Rattle.cycle_check.proofs.kept.list_kept.Given as goal

abbrev pub invariant-loop-c : goal.invariant-loop-c
invariant-loop-c l = (d : ℕ) → Contains l.listed.items d ↔ ((d < l.c) × HasKept l.starts l.members l.kept d)
