-- The places so far were read.
use Rattle.std.proofs.Common.{◌≡◌, length, take, drop}
use Rattle.joint_machine.specs.Histories.{managed_numbers}
use Rattle.joint_replay.proofs.named.freed_objects.Given as goal

abbrev pub invariant-loop-i : goal.invariant-loop-i
invariant-loop-i l = record {
  count : length l.numbers.items ≡ l.i;
  read : l.numbers.items ≡ managed_numbers (take l.i (drop l.span.first l.h.freed_managed));
}
