use Rattle.std.proofs.Common.{◌∙◌, sym, ap, arith}
use Rattle.std.proofs.lemmas.List.{take_all}
use Rattle.android_log.specs.Frames.{trimmed_len}
use Rattle.android_log.proofs.Steps.{trimmed_byte, trimmed_space}
use Rattle.android_log.proofs.frames.trimmed_len.Goals as goal
use Rattle.android_log.proofs.frames.trimmed_len.Goals.{then-b-ne32, else-b-ne32}

pub loop-i-preserved : goal.loop-i-preserved
loop-i-preserved c =
    let text = c.args.text.now in
    elim c.if-b-ne32.branch [
      | then-b-ne32 w ↦ rw w.len-is record { is = sym (trimmed_byte text c.loop-i.i c.loop-i-test.true w.if-b-ne32.true); within = omega arith }
      | else-b-ne32 w ↦ rw w.len-is record { is = c.loop-i.invariant.is ∙ sym (trimmed_space text c.loop-i.i c.loop-i-test.true w.if-b-ne32.false); within = omega (arith, c.loop-i.invariant.within) }
    ]

pub returns-clause-is : goal.returns-clause-is
returns-clause-is c = c.loop-i.invariant.is ∙ ap trimmed_len (take_all c.loop-i.i c.args.text.now (omega arith))
