-- The wanted rows so far are gathered.
use Rattle.joint_replay.specs.Found.{IsUnreachedRow}
use Rattle.joint_machine.specs.Gathered.{Gathered}
use Rattle.joint_replay.proofs.found.unreached.Given as goal

abbrev pub invariant-loop-m : goal.invariant-loop-m
invariant-loop-m l = Gathered (IsUnreachedRow l.heap l.slots l.bridges l.stays) l.m l.rows.items
