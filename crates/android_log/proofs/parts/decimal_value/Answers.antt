use Rattle.std.proofs.Common.{◌∙◌, sym, refl, arith}
use Rattle.std.proofs.lemmas.List.{at_drop_all}
use Rattle.android_log.specs.Parts.{decimal_behind}
use Rattle.android_log.proofs.Steps.{decimal_large, decimal_more}
use Rattle.android_log.proofs.parts.decimal_value.Goals as goal

pub returns-then-n-ge-DECIMAL_END : goal.returns-then-n-ge-DECIMAL_END
returns-then-n-ge-DECIMAL_END c =
    let i = c.loop-d.invariant in
    sym (i.behind ∙ decimal_large c.loop-d.n c.args.digits.now c.loop-d.d-index c.loop-d-test.true (omega arith))

pub loop-d-preserved : goal.loop-d-preserved
loop-d-preserved c =
    let i = c.loop-d.invariant in
    record {
      small = omega arith;
      behind = i.behind ∙ (decimal_more c.loop-d.n c.args.digits.now c.loop-d.d-index c.loop-d-test.true (omega arith) ∙ (rw (sym c.saturating_sub.ensures) refl));
    }

pub returns : goal.returns
returns c = sym (c.loop-d.invariant.behind ∙ at_drop_all (decimal_behind c.loop-d.n) c.args.digits.now c.loop-d.d-index (omega arith))
