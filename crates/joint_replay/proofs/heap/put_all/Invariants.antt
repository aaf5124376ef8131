-- The numbers so far were put.
use Rattle.std.proofs.Common.{◌≡◌, ◌++◌, take, vec_capacity}
use Rattle.joint_replay.proofs.heap.put_all.Given as goal

abbrev pub invariant-loop-x : goal.invariant-loop-x
invariant-loop-x l = record {
  items : l.to.items ≡ l.fn.to.items ++ take l.x-index l.xs;
  capacity : vec_capacity l.to ≡ vec_capacity l.fn.to;
}
