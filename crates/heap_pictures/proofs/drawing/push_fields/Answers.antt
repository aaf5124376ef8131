use Rattle.std.proofs.Common.{[], ◌+◌, arith}
use Rattle.heap_pictures.specs.Drawing.{object_arrows}
use Rattle.heap_pictures.proofs.Ranges.{put_more}
use Rattle.heap_pictures.proofs.drawing.push_fields.Goals as goal

pub loop-i-preserved : goal.loop-i-preserved
loop-i-preserved c = put_more (object_arrows c.args.side c.args.heap.now) 1 c.loop-i.i
    (c.loop-i.i + 1) c.args.arrows.now.items c.loop-i.arrows.items c.push_live_row.new.arrows.items (omega arith) c.loop-i.invariant c.in_ok-push_live_row.ensures
