use Rattle.std.proofs.Common.{◌≡◌, drop}
use Rattle.android_log.specs.Parts.{hex_behind}
use Rattle.android_log.proofs.parts.hex_number.Given as goal

abbrev pub invariant-loop-d : goal.invariant-loop-d
invariant-loop-d l = hex_behind 0 l.digits ≡ hex_behind l.n (drop l.d-index l.digits)
