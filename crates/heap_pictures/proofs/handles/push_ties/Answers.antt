use Rattle.std.proofs.Common.{[], ◌+◌, arith}
use Rattle.heap_pictures.specs.Drawing.{tie}
use Rattle.heap_pictures.proofs.Ranges.{put_more}
use Rattle.heap_pictures.proofs.handles.push_ties.Goals as goal

pub loop-i-preserved : goal.loop-i-preserved
loop-i-preserved c = put_more (tie c.args.view.now) 1 c.loop-i.i
    (c.loop-i.i + 1) c.args.arrows.now.items c.loop-i.arrows.items c.push_tie.new.arrows.items (omega arith) c.loop-i.invariant c.in_ok-push_tie.ensures
