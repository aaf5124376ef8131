use Rattle.picture_sheets.specs.Same.{same_arrow}
use Rattle.picture_sheets.proofs.Keyed.{any-more, arrow-put}
use Rattle.picture_sheets.proofs.keys.arrow_set.Goals as goal

pub loop-arrow-preserved : goal.loop-arrow-preserved
loop-arrow-preserved c a = any-more (same_arrow a) c.args.arrows.now c.loop-arrow.arrow-index _ _ _ c.loop-arrow-test.true (c.loop-arrow.invariant a)
    (arrow-put c.loop-arrow.set c.insert.new.self c.arrow_key.result _ c.arrow_key.ensures c.in_ok-insert.ensures.updates a)
