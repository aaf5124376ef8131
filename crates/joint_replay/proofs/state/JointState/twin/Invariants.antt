-- No object so far is the twin.
use Rattle.std.proofs.Common.{◌≡◌, ◌-◌, drop}
use Rattle.joint_machine.specs.Joint.{twin_from, twin_of}
use Rattle.joint_replay.proofs.state.JointState.twin.Given as goal

abbrev pub invariant-loop-m : goal.invariant-loop-m
invariant-loop-m l = twin_from l.self l.p l.m (drop (l.m - 1) l.self.graph.managed.held) ≡ twin_of l.self l.p
