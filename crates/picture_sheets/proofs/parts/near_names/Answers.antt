use Rattle.std.proofs.Common.{ℕ}
use Rattle.heap_pictures.specs.declared.pictures.Spot.TheVariants.{Object}
use Rattle.picture_sheets.specs.Keys.{has_spot}
use Rattle.picture_sheets.proofs.Keeping.{kept-more}
use Rattle.picture_sheets.proofs.parts.near_names.Goals as goal

pub loop-m-preserved : goal.loop-m-preserved
loop-m-preserved c = kept-more (λ (m : ℕ). has_spot c.args.near.now (Object m)) c.args.names.now c.loop-m.m-index _
    c.loop-m.found.items c.keep.new.list.items c.has_spot.result c.loop-m-test.true c.loop-m.invariant
    c.has_spot.ensures c.in_ok-keep.ensures
