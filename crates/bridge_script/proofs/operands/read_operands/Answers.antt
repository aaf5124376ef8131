use Rattle.std.proofs.Common.{arith}
use Rattle.bridge_script.specs.declared.grammar.Place.TheVariants as place
use Rattle.bridge_script.proofs.Gathering.{gathered_next, few_more, gathered_all, words_missing, words_left, arity_first, found_first, all_gathered}
use Rattle.bridge_script.proofs.operands.read_operands.Goals as goal

pub returns-in_default : goal.returns-in_default
returns-in_default c =
    let i = c.loop-place.invariant in
    let e = c.in_default.ensures.0 in
    arity_first c.args.places.now c.args.words.now (words_missing c.args.places.now c.args.words.now c.loop-place.place-index
    c.loop-place.words c.loop-place.first c.loop-place.operands c.loop-place-test.true e i.gathered)

pub loop-place-preserved : goal.loop-place-preserved
loop-place-preserved c =
    let i = c.loop-place.invariant in
    record {
      gathered = gathered_next c.args.places.now c.args.words.now c.loop-place.place-index place.Var c.in-Some.word.now c.loop-place.words
          c.next.new.self c.operand_at.result c.loop-place.first c.note.new.first c.loop-place.operands c.note.new.operands
          c.loop-place-test.true c.in-Some.ensures c.operand_at.ensures c.note.ensures i.gathered;
      few = omega (arith, few_more c.operand_at.result c.loop-place.first c.note.new.first c.loop-place.operands c.note.new.operands c.note.ensures);
    }

pub returns-then-not-is_empty : goal.returns-then-not-is_empty
returns-then-not-is_empty c =
    let g = gathered_all c.args.places.now c.args.words.now c.loop-place.place-index c.loop-place.words
    c.loop-place.first c.loop-place.operands c.loop-place-test.false c.loop-place.invariant.gathered in
    arity_first c.args.places.now c.args.words.now (words_left c.args.places.now c.args.words.now c.loop-place.words c.loop-place.first c.loop-place.operands c.if-not-is_empty.ensures g)

pub returns-in-Some-first : goal.returns-in-Some-first
returns-in-Some-first c =
    let g = gathered_all c.args.places.now c.args.words.now c.loop-place.place-index c.loop-place.words
    c.loop-place.first c.loop-place.operands c.loop-place-test.false c.loop-place.invariant.gathered in
    found_first c.args.places.now c.args.words.now c.in-Some-first.cause c.loop-place.operands (rw (c.if-not-is_empty.ensures, c.in-Some-first.is) at g)

pub returns-in-None : goal.returns-in-None
returns-in-None c =
    let g = gathered_all c.args.places.now c.args.words.now c.loop-place.place-index c.loop-place.words
    c.loop-place.first c.loop-place.operands c.loop-place-test.false c.loop-place.invariant.gathered in
    all_gathered c.args.places.now c.args.words.now c.loop-place.operands (rw (c.if-not-is_empty.ensures, c.in-None.is) at g)
