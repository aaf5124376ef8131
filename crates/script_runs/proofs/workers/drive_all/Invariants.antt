use Rattle.std.proofs.Common.{◌≡◌, ◌≤◌}
use Rattle.bridge_cycle.specs.Progress.{line_of}
use Rattle.script_runs.proofs.Owned.{DriverHolds}
use Rattle.script_runs.proofs.workers.drive_all.Given as goal

abbrev pub invariant-loop-t : goal.invariant-loop-t
invariant-loop-t g l = (l.number ≡ l.t-index) × (l.last ≤ l.number) × (line_of l.driver ≤ l.last) × DriverHolds l.script l.t-index l.last l.driver
