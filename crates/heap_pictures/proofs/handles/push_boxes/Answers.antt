use Rattle.std.proofs.Common.{[], ◌+◌, arith}
use Rattle.joint_machine.specs.Heaps.{numbered_at}
use Rattle.heap_pictures.specs.Drawing.{box_of, owned}
use Rattle.heap_pictures.proofs.Ranges.{put_more}
use Rattle.heap_pictures.proofs.handles.push_boxes.Goals as goal

pub loop-i-preserved : goal.loop-i-preserved
loop-i-preserved c = put_more (λ h. box_of c.args.joint.now (owned c.args.joint.now) h (numbered_at c.args.joint.now.graph.peers.issued h)) 1 c.loop-i.i
    (c.loop-i.i + 1) c.args.arrows.now.items c.loop-i.arrows.items c.push_handle.new.arrows.items (omega arith) c.loop-i.invariant c.in_ok-push_handle.ensures
