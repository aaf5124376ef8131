use Rattle.std.proofs.Common.{◌≡◌, ◌+◌, drop}
use Rattle.std.specs.List.{prefix_len}
use Rattle.android_log.specs.Parts.{is_space}
use Rattle.android_log.proofs.parts.spaces.Given as goal

abbrev pub invariant-loop-n : goal.invariant-loop-n
invariant-loop-n l = l.n + prefix_len is_space (drop l.n l.text) ≡ prefix_len is_space l.text
