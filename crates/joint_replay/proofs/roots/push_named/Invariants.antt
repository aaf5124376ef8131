-- What the slots so far name was put.
use Rattle.std.proofs.Common.{take}
use Rattle.joint_marking.specs.Gathered.{Gains}
use Rattle.joint_replay.specs.Roots.{IsNamedLive}
use Rattle.joint_replay.proofs.roots.push_named.Given as goal

abbrev pub invariant-loop-i : goal.invariant-loop-i
invariant-loop-i l = Gains (IsNamedLive l.heap (take l.i l.slots)) l.fn.roots.items l.roots.items
