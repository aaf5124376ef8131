-- The notices so far stand in the list.
use Rattle.std.proofs.Common.{◌≡◌, ◌≤◌, length, take, vec_capacity}
use Rattle.finaliser_queue.proofs.copied.Given as goal

abbrev pub invariant-loop-m : goal.invariant-loop-m
invariant-loop-m l = record {
  items : l.list.items ≡ take l.m-index l.notices;
  capacity : vec_capacity l.list ≡ vec_capacity l.fn.list;
  few : length l.list.items ≤ l.m-index;
}
