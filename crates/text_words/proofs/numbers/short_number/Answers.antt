use Rattle.std.proofs.Common.{get_or, inl, inr, refl, arith}
use Rattle.text_words.proofs.Gathering.{no_digit, no_zero, so_far_first, so_far_more, so_far_small}
use Rattle.text_words.proofs.numbers.short_number.Goals as goal
use Rattle.text_words.proofs.numbers.short_number.Goals.{then-word-lt49-via-then-word-lt49, then-word-lt49-via-else-word-lt49+then-word-gt57, then-byte-lt48-via-then-byte-lt48}
use Rattle.text_words.proofs.numbers.short_number.Goals.{then-byte-lt48-via-else-byte-lt48+then-byte-gt57}

pub returns-then-word-lt49 : goal.returns-then-word-lt49
returns-then-word-lt49 c = λ n l e. elim c.then-word-lt49.branch [
  | then-word-lt49-via-then-word-lt49 w ↦ no_zero c.args.word.now n c.requires.some w.if-word-lt49.true l e
  | then-word-lt49-via-else-word-lt49+then-word-gt57 w ↦ no_digit c.args.word.now 0 n (omega arith) (inr w.if-word-gt57.true) e
]

pub loop-i-init : goal.loop-i-init
loop-i-init c = so_far_first c.args.word.now (get_or c.args.word.now 0 0) (omega arith) refl c.if-word-lt49.false c.if-word-gt57.false

pub returns-then-byte-lt48 : goal.returns-then-byte-lt48
returns-then-byte-lt48 c = λ n l e. elim c.then-byte-lt48.branch [
  | then-byte-lt48-via-then-byte-lt48 w ↦ no_digit c.args.word.now c.loop-i.i n c.loop-i-test.true (inl w.if-byte-lt48.true) e
  | then-byte-lt48-via-else-byte-lt48+then-byte-gt57 w ↦ no_digit c.args.word.now c.loop-i.i n c.loop-i-test.true (inr w.if-byte-gt57.true) e
]

pub overflow_mul-n : goal.overflow_mul-n
overflow_mul-n c = (let s = so_far_small c.args.word.now c.loop-i.i c.loop-i.n (omega arith) c.loop-i.invariant in omega (arith, s))

pub overflow_add-n : goal.overflow_add-n
overflow_add-n c = (let s = so_far_small c.args.word.now c.loop-i.i c.loop-i.n (omega arith) c.loop-i.invariant in omega (arith, s))

pub loop-i-preserved : goal.loop-i-preserved
loop-i-preserved c = so_far_more c.args.word.now c.loop-i.i c.loop-i.n (get_or c.args.word.now c.loop-i.i 0) c.loop-i-test.true
    (omega arith) refl c.if-byte-lt48.false c.if-byte-gt57.false c.loop-i.invariant
