use Rattle.std.proofs.Common.{◌∙◌, sym, arith, length-drop}
use Rattle.std.proofs.lemmas.List.{at_drop_all}
use Rattle.byte_streams.proofs.Bytes.{rest_of}
use Rattle.android_log.specs.Frames.{before_end}
use Rattle.android_log.proofs.Steps.{end_here, end_on}
use Rattle.android_log.proofs.frames.before_end.Goals as goal

pub is_end-requires : goal.is_end-requires
is_end-requires c = rw (rest_of c.loop-at.at c.args.text.now) (omega (arith, length-drop c.loop-at.at c.args.text.now))

pub returns-then-is_end-clause-is : goal.returns-then-is_end-clause-is
returns-then-is_end-clause-is c =
    let here = rw (rest_of c.loop-at.at c.args.text.now) at c.is_end.ensures in
    omega (arith, c.loop-at.invariant, end_here c.args.text.now c.loop-at.at (omega arith) (sym here ∙ c.if-is_end.true))

pub loop-at-preserved : goal.loop-at-preserved
loop-at-preserved c =
    let here = rw (rest_of c.loop-at.at c.args.text.now) at c.is_end.ensures in
    omega (arith, c.loop-at.invariant, end_on c.args.text.now c.loop-at.at (omega arith) (sym here ∙ c.if-is_end.false))

pub returns-clause-is : goal.returns-clause-is
returns-clause-is c = omega (arith, c.loop-at.invariant, at_drop_all before_end c.args.text.now c.loop-at.at (omega arith))
