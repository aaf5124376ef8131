-- A script that was read can be run.
use Rattle.std.proofs.Common.{List, arith}
use Rattle.joint_machine.specs.declared.names.Thread.{Thread}
use Rattle.joint_machine.specs.declared.lines.Act.{Act}
use Rattle.bridge_script.specs.Scripts.{IsScript}
use Rattle.script_runs.specs.Running.{CanRun}

pub can_run : (script : List (Thread × Act)) → IsScript script → CanRun script
can_run script s = record { each = s.each; count = let n = s.lines in omega (arith, n) }
