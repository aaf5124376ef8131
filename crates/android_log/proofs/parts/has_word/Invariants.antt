use Rattle.std.proofs.Common.{◌≡◌, drop}
use Rattle.android_log.specs.Parts.{has_word}
use Rattle.android_log.proofs.parts.has_word.Given as goal

abbrev pub invariant-loop-at : goal.invariant-loop-at
invariant-loop-at l = has_word l.word l.text ≡ has_word l.word (drop l.at l.text)
