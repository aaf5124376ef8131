use Rattle.std.proofs.Common.{length}
use Rattle.run_check.proofs.Checked.{IsChecked}
use Rattle.run_check.proofs.checks.judge_all.Given as goal

abbrev pub decreases-loop-step : goal.decreases-loop-step
decreases-loop-step l = length l.walk

abbrev pub invariant-loop-step : goal.invariant-loop-step
invariant-loop-step l = IsChecked l.h l.replay l.number l.walk
