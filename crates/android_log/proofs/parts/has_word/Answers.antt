use Rattle.std.proofs.Common.{◌∙◌, sym, length, arith}
use Rattle.std.proofs.lemmas.List.{at_drop_all, drop_all}
use Rattle.byte_streams.proofs.Bytes.{rest_of}
use Rattle.android_log.specs.Parts.{has_word}
use Rattle.android_log.proofs.Steps.{word_here, word_on}
use Rattle.android_log.proofs.parts.has_word.Goals as goal

pub returns-then-starts_with : goal.returns-then-starts_with
returns-then-starts_with c =
    let here = rw (rest_of c.loop-at.at c.args.text.now) at c.starts_with.ensures.value in
    sym (c.loop-at.invariant ∙ word_here c.args.word.now c.args.text.now c.loop-at.at (sym here ∙ c.if-starts_with.true))

pub loop-at-preserved : goal.loop-at-preserved
loop-at-preserved c =
    let here = rw (rest_of c.loop-at.at c.args.text.now) at c.starts_with.ensures.value in
    c.loop-at.invariant ∙ word_on c.args.word.now c.args.text.now c.loop-at.at (omega arith) (sym here ∙ c.if-starts_with.false)

pub returns : goal.returns
returns c =
    let text = c.args.text.now in
    let here = rw (rest_of (length text) text, drop_all (length text) text (omega arith)) at c.starts_with-2.ensures.value in
    here ∙ sym (c.loop-at.invariant ∙ at_drop_all (has_word c.args.word.now) text c.loop-at.at (omega arith))
