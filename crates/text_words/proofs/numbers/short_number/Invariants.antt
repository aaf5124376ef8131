use Rattle.text_words.proofs.Gathering.{IsSoFar}
use Rattle.text_words.proofs.numbers.short_number.Given as goal

abbrev pub invariant-loop-i : goal.invariant-loop-i
invariant-loop-i l = IsSoFar l.word l.i l.n
