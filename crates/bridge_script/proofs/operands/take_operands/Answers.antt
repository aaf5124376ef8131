use Rattle.std.proofs.Common.{[], ◌∷◌, ap, arith, length, length-append}
use Rattle.bridge_script.specs.declared.grammar.Place.TheVariants as place
use Rattle.bridge_script.proofs.Taking.{none_here, none_left, took_all, took_next}
use Rattle.bridge_script.proofs.operands.take_operands.Goals as goal

pub returns-in_err-next-clause-complete : goal.returns-in_err-next-clause-complete
returns-in_err-next-clause-complete c = λ zs rest s e. absurd
    (none_left c.args.places.now c.args.words.now c.loop-place.place-index place.Var c.loop-place.words
    c.loop-place.operands zs rest c.loop-place-test.true c.in_err-next.ensures.0 c.loop-place.invariant.took s e)

pub returns-in_default-clause-complete : goal.returns-in_default-clause-complete
returns-in_default-clause-complete c = λ zs rest s e. absurd
    (none_here c.args.places.now c.args.words.now c.loop-place.place-index place.Var c.in_ok-next.field-0.now c.loop-place.words c.next.new.self
    c.loop-place.operands zs rest c.in_default.field-0 c.loop-place-test.true c.in_ok-next.ensures c.in_default.ensures.0 c.loop-place.invariant.took s e)

pub loop-place-preserved : goal.loop-place-preserved
loop-place-preserved c =
    let xs = c.loop-place.operands in
    record {
      took = rw c.push.ensures
          (took_next c.args.places.now c.args.words.now c.loop-place.place-index place.Var c.in_ok-next.field-0.now c.loop-place.words c.next.new.self
          xs c.in-Ok.operand c.loop-place-test.true c.in_ok-next.ensures c.in-Ok.ensures.0 c.in-Ok.ensures.1 c.loop-place.invariant.took);
      few = omega (arith, ap length c.push.ensures, length-append xs (c.in-Ok.operand ∷ []), c.loop-place.invariant.few);
    }

pub returns-clause-sound : goal.returns-clause-sound
returns-clause-sound c = took_all c.args.places.now c.args.words.now c.loop-place.place-index c.loop-place.words c.loop-place.operands c.loop-place-test.false c.loop-place.invariant.took
