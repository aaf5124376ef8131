use Rattle.std.proofs.Common.{◌≤◌, length, drop}
use Rattle.bridge_script.proofs.Gathering.{Gathered}
use Rattle.bridge_script.proofs.operands.read_operands.Given as goal

abbrev pub invariant-loop-place : goal.invariant-loop-place
invariant-loop-place l = record {
  gathered : Gathered l.places l.fn.words (drop l.place-index l.places) l.words l.first l.operands;
  few : length l.operands ≤ l.place-index;
}
