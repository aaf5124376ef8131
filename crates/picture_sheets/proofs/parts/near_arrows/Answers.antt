use Rattle.heap_pictures.specs.declared.pictures.Arrow.{Arrow}
use Rattle.picture_sheets.specs.Around.{is_between}
use Rattle.picture_sheets.specs.Keys.{has_spot}
use Rattle.picture_sheets.proofs.Keeping.{kept-more}
use Rattle.picture_sheets.proofs.parts.near_arrows.Goals as goal

pub loop-arrow-preserved : goal.loop-arrow-preserved
loop-arrow-preserved c = kept-more (λ (a : Arrow). is_between (has_spot c.args.near.now) a) c.args.arrows.now c.loop-arrow.arrow-index _
    c.loop-arrow.found.items c.keep.new.list.items c.is_between.result c.loop-arrow-test.true c.loop-arrow.invariant
    c.is_between.ensures c.in_ok-keep.ensures
