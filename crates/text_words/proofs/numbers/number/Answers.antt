use Rattle.text_words.proofs.Digits.{one_byte}
use Rattle.text_words.proofs.numbers.number.Goals as goal

pub returns-then-word-eq1 : goal.returns-then-word-eq1
returns-then-word-eq1 c = rw (one_byte c.args.word.now c.if-word-eq1.true) c.digit.ensures
