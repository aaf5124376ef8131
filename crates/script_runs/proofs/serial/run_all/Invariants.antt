use Rattle.script_runs.proofs.Seated.{ComeSoFar}
use Rattle.script_runs.proofs.serial.run_all.Given as goal

abbrev pub invariant-loop-line : goal.invariant-loop-line
invariant-loop-line g l = ComeSoFar l.script l.line-index l.number l.last l.driver l.others.items
