use Rattle.std.proofs.Common.{◌≡◌, ◌≤◌, ◌-◌, drop, length}
use Rattle.android_log.specs.Placed.{tag_from}
use Rattle.android_log.proofs.placed.tag_in.Given as goal

abbrev pub invariant-loop-at : goal.invariant-loop-at
invariant-loop-at l = record {
  is : tag_from 0 l.line ≡ tag_from l.at (drop l.at l.line);
  within : l.at ≤ length l.line;
}

abbrev pub decreases-loop-at : goal.decreases-loop-at
decreases-loop-at l = length l.line - l.at
