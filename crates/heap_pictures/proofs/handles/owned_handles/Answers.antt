use Rattle.std.proofs.Common.{[], ◌+◌, arith}
use Rattle.heap_pictures.specs.Drawing.{handle_list}
use Rattle.heap_pictures.proofs.Ranges.{put_more}
use Rattle.heap_pictures.proofs.handles.owned_handles.Goals as goal

pub loop-i-preserved : goal.loop-i-preserved
loop-i-preserved c = put_more (handle_list c.args.joint.now) 1 c.loop-i.i (c.loop-i.i + 1)
    [] c.loop-i.handles.items c.push_owned.new.handles.items (omega arith) c.loop-i.invariant c.in_ok-push_owned.ensures
