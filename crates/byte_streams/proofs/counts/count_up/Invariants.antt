use Rattle.std.proofs.Common.{◌≡◌, ◌≤◌, length}
use Rattle.byte_streams.proofs.Counting.{Carries}
use Rattle.byte_streams.proofs.counts.count_up.Given as goal

abbrev pub invariant-loop-i : goal.invariant-loop-i
invariant-loop-i l = record {
  len : length l.digits ≡ length l.fn.digits;
  within : l.i ≤ length l.digits;
  carries : Carries l.fn.digits l.digits l.i;
}

abbrev pub decreases-loop-i : goal.decreases-loop-i
decreases-loop-i l = l.i
