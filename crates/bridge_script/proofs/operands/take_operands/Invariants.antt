use Rattle.std.proofs.Common.{◌≤◌, length, drop}
use Rattle.bridge_script.proofs.Taking.{Took}
use Rattle.bridge_script.proofs.operands.take_operands.Given as goal

abbrev pub invariant-loop-place : goal.invariant-loop-place
invariant-loop-place l = record {
  took : Took l.places l.fn.words (drop l.place-index l.places) l.words l.operands;
  few : length l.operands ≤ l.place-index;
}
