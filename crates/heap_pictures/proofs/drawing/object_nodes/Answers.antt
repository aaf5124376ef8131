use Rattle.std.proofs.Common.{[], ◌+◌, arith}
use Rattle.heap_pictures.specs.Drawing.{object_node}
use Rattle.heap_pictures.proofs.Ranges.{put_more}
use Rattle.heap_pictures.proofs.drawing.object_nodes.Goals as goal

pub loop-i-preserved : goal.loop-i-preserved
loop-i-preserved c = put_more (object_node c.args.joint.now) 1 c.loop-i.i (c.loop-i.i + 1)
    [] c.loop-i.nodes.items c.push_object.new.nodes.items (omega arith) c.loop-i.invariant c.in_ok-push_object.ensures
