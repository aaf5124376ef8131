use Rattle.std.proofs.Common.{◌≤◌}
use Rattle.script_runs.specs.Running.{DriverIsFirst}
use Rattle.script_runs.proofs.Desked.{Working}
use Rattle.script_runs.proofs.Ordered.{InOrder}
use Rattle.script_runs.proofs.workers.call_workers.Given as goal

abbrev pub invariant-loop-place : goal.invariant-loop-place
invariant-loop-place g l = Working l.script l.desk l.callers.items l.place × DriverIsFirst l.callers.items × (1 ≤ l.place) × InOrder l.script l.callers.items l.place
