use Rattle.std.proofs.Common.{ℕ, ◌<◌}
use Rattle.reachability.specs.Marks.{HasMark}
use Rattle.cycle_check.specs.Walking.{HasLost}
use Rattle.cycle_check.proofs.kept.lost_member.Given as goal

abbrev pub invariant-loop-c : goal.invariant-loop-c
invariant-loop-c l = (d : ℕ) → d < l.c → HasMark l.marks d → HasLost l.starts l.members l.kept d → ⊥
