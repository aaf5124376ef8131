use Rattle.std.proofs.Common.{[], ◌+◌, arith}
use Rattle.heap_pictures.specs.Drawing.{peer_node}
use Rattle.heap_pictures.proofs.Ranges.{put_more}
use Rattle.heap_pictures.proofs.drawing.peer_nodes.Goals as goal

pub loop-i-preserved : goal.loop-i-preserved
loop-i-preserved c = put_more (peer_node c.args.joint.now) 1 c.loop-i.i (c.loop-i.i + 1) [] c.loop-i.nodes.items c.push_peer.new.nodes.items (omega arith) c.loop-i.invariant c.in_ok-push_peer.ensures
