use Rattle.std.proofs.Common.{[], ◌+◌, arith}
use Rattle.heap_pictures.specs.Drawing.{field_arrow}
use Rattle.heap_pictures.proofs.Ranges.{put_more}
use Rattle.heap_pictures.proofs.drawing.push_row.Goals as goal

pub loop-i-preserved : goal.loop-i-preserved
loop-i-preserved c = put_more (field_arrow c.args.side c.args.heap.now c.args.x) 0 c.loop-i.i c.loop-i.i c.args.arrows.now.items
    c.loop-i.arrows.items c.push_field.new.arrows.items (omega arith) c.loop-i.invariant c.in_ok-push_field.ensures
