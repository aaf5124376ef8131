use Rattle.script_runs.proofs.Last.{HearsFirst}
use Rattle.script_runs.proofs.last_cycle.hear_all.Given as goal

abbrev pub invariant-loop-i : goal.invariant-loop-i
invariant-loop-i g l = HearsFirst l.i l.initial.driver l.driver l.initial.others.items l.others.items
