use Rattle.std.proofs.Common.{◌≡◌, ◌+◌, drop}
use Rattle.android_log.specs.Frames.{before_end}
use Rattle.android_log.proofs.frames.before_end.Given as goal

abbrev pub invariant-loop-at : goal.invariant-loop-at
invariant-loop-at l = before_end l.text ≡ l.at + before_end (drop l.at l.text)
