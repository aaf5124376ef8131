use Rattle.std.proofs.Common.{[]}
use Rattle.picture_sheets.specs.Near.{joined_to}
use Rattle.picture_sheets.proofs.Nearing.{grows-from}
use Rattle.picture_sheets.proofs.near.grown.Goals as goal

pub loop-spot-preserved : goal.loop-spot-preserved
loop-spot-preserved c = grows-from (joined_to c.args.lists.now) c.args.newest.now c.loop-spot.spot-index _ c.args.near.now c.loop-spot.near c.go_from.new.near
    [] c.loop-spot.fresh.items c.go_from.new.fresh.items c.loop-spot-test.true c.loop-spot.invariant c.in_ok-go_from.ensures
