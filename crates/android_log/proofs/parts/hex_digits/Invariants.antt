use Rattle.std.proofs.Common.{◌≡◌, ◌+◌, drop}
use Rattle.std.specs.List.{prefix_len}
use Rattle.android_log.specs.Parts.{is_hex}
use Rattle.android_log.proofs.parts.hex_digits.Given as goal

abbrev pub invariant-loop-n : goal.invariant-loop-n
invariant-loop-n l = l.n + prefix_len is_hex (drop l.n l.text) ≡ prefix_len is_hex l.text
