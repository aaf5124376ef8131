use Rattle.std.proofs.Common.{◌∙◌, sym, refl, arith}
use Rattle.std.proofs.lemmas.List.{at_drop_all}
use Rattle.android_log.specs.Parts.{hex_behind}
use Rattle.android_log.proofs.Steps.{hex_large, hex_more}
use Rattle.android_log.proofs.parts.hex_number.Goals as goal

pub returns-then-n-ge-HEX_END : goal.returns-then-n-ge-HEX_END
returns-then-n-ge-HEX_END c = sym (c.loop-d.invariant ∙ hex_large c.loop-d.n c.args.digits.now c.loop-d.d-index c.loop-d-test.true (omega arith))

pub loop-d-preserved : goal.loop-d-preserved
loop-d-preserved c =
    c.loop-d.invariant ∙ (hex_more c.loop-d.n c.args.digits.now c.loop-d.d-index c.loop-d-test.true (omega arith) ∙ (rw (sym c.hex_value.ensures.is) refl))

pub returns : goal.returns
returns c = sym (c.loop-d.invariant ∙ at_drop_all (hex_behind c.loop-d.n) c.args.digits.now c.loop-d.d-index (omega arith))
