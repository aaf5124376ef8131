use Rattle.std.proofs.Common.{◌≡◌, [], take}
use Rattle.run_laws.specs.Threads.{thread_lines}
use Rattle.script_runs.proofs.workers.has_line.Given as goal

abbrev pub invariant-loop-line : goal.invariant-loop-line
invariant-loop-line l = thread_lines l.t (take l.line-index l.script) ≡ []
