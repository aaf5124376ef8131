-- The wanted rows so far are gathered.
use Rattle.joint_replay.specs.Found.{IsBridgeRow}
use Rattle.joint_machine.specs.Gathered.{Gathered}
use Rattle.joint_replay.proofs.roots.bridge_rows.Given as goal

abbrev pub invariant-loop-m : goal.invariant-loop-m
invariant-loop-m l = Gathered (IsBridgeRow l.heap l.held) l.m l.rows.items
