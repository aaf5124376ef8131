use Rattle.std.proofs.Common.{◌≢◌, ◌≤◌, All, drop, length}
use Rattle.text_limits.proofs.limits.closed_length.Given as goal

abbrev pub invariant-loop-at : goal.invariant-loop-at
invariant-loop-at l = record {
  fits : l.at ≤ length l.bytes;
  line : All (λ b. b ≢ 10) (drop l.at l.bytes);
}

abbrev pub decreases-loop-at : goal.decreases-loop-at
decreases-loop-at l = l.at
