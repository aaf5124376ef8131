-- The flags of the objects so far are down.
use Rattle.std.proofs.Common.{◌≡◌, ◌++◌, take, vec_capacity}
use Rattle.joint_replay.specs.Plain.{Lowers}
use Rattle.joint_replay.proofs.heap.lower.Given as goal

abbrev pub invariant-loop-x : goal.invariant-loop-x
invariant-loop-x l = record {
  flags : Lowers (take l.x-index l.xs) l.fn.flags.items l.flags.items;
  freed : l.freed.items ≡ l.fn.freed.items ++ take l.x-index l.xs;
  capacity : vec_capacity l.freed ≡ vec_capacity l.fn.freed;
}
