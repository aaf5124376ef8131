-- The wanted rows so far are gathered.
use Rattle.joint_replay.specs.Found.{IsCandidateRow}
use Rattle.joint_machine.specs.Gathered.{Gathered}
use Rattle.joint_replay.proofs.found.pick.Given as goal

abbrev pub invariant-loop-m : goal.invariant-loop-m
invariant-loop-m l = Gathered (IsCandidateRow l.heap l.held l.slots) l.m l.rows.items
