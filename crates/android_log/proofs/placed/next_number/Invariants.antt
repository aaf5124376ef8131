use Rattle.std.proofs.Common.{◌≡◌, filter, length}
use Rattle.android_log.specs.Placed.{is_number_word}
use Rattle.android_log.proofs.placed.next_number.Given as goal

abbrev pub invariant-loop-word : goal.invariant-loop-word
invariant-loop-word l = filter is_number_word l.fn.words ≡ filter is_number_word l.words

abbrev pub decreases-loop-word : goal.decreases-loop-word
decreases-loop-word l = length l.words
