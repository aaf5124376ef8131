use Rattle.std.proofs.Common.{◌≡◌, ◌<◌, ◌^◌, drop}
use Rattle.android_log.specs.Parts.{decimal_behind}
use Rattle.android_log.proofs.parts.decimal_value.Given as goal

abbrev pub invariant-loop-d : goal.invariant-loop-d
invariant-loop-d l = record {
  small : l.n < 2 ^ 32;
  behind : decimal_behind 0 l.digits ≡ decimal_behind l.n (drop l.d-index l.digits);
}
