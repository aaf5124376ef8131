-- The peers of the handles so far were put.
use Rattle.joint_marking.specs.Gathered.{IsBrought, Gains}
use Rattle.joint_replay.specs.Graphs.{IsRooted}
use Rattle.joint_replay.proofs.dead.push_rooted.Given as goal

abbrev pub invariant-loop-h : goal.invariant-loop-h
invariant-loop-h l = Gains (IsBrought (IsRooted l.peers l.removed l.owned) l.h) l.fn.roots.items l.roots.items
