use Rattle.picture_sheets.proofs.Nearing.{grows-more}
use Rattle.picture_sheets.proofs.near.put_all.Goals as goal

pub loop-spot-preserved : goal.loop-spot-preserved
loop-spot-preserved c = grows-more c.args.spots.now c.loop-spot.spot-index _ c.args.near.now c.loop-spot.near c.put.new.near c.args.fresh.now.items
    c.loop-spot.fresh.items c.put.new.fresh.items c.loop-spot-test.true c.loop-spot.invariant c.in_ok-put.ensures
