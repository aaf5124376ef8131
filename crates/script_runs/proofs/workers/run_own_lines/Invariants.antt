use Rattle.std.proofs.Common.{◌≡◌, ◌≤◌}
use Rattle.joint_history.specs.Callers.{last_index, own}
use Rattle.script_laws.specs.Holding.{opening_standing}
use Rattle.joint_machine.specs.Lines.{IsManagedThread}
use Rattle.run_laws.specs.Threads.{HoldsItsFirst}
use Rattle.run_laws.specs.Waits.{WaitsEnd}
use Rattle.script_runs.proofs.workers.run_own_lines.Given as goal

abbrev pub invariant-loop-t : goal.invariant-loop-t
invariant-loop-t g l = (l.number ≡ l.t-index) × (l.caller.thread ≡ l.thread) × (last_index (own l.caller) ≤ l.number)
    × HoldsItsFirst l.script l.t-index l.caller opening_standing × (IsManagedThread l.caller.thread → WaitsEnd (own l.caller))
