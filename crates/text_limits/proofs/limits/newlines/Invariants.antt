use Rattle.std.proofs.Common.{◌≡◌, ◌≤◌, count_by, nat_eq, take}
use Rattle.text_limits.proofs.limits.newlines.Given as goal

abbrev pub invariant-loop-byte : goal.invariant-loop-byte
invariant-loop-byte l = record {
  counted : l.count ≡ count_by (λ b. nat_eq b 10) (take l.byte-index l.bytes);
  few : l.count ≤ l.byte-index;
}
