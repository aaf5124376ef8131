use Rattle.std.proofs.Common.{◌≡◌, [], ◌++◌}
use Rattle.std.specs.List.{flat_map, range_with_len}
use Rattle.joint_machine.specs.Heaps.{numbered_at, slot}
use Rattle.heap_pictures.specs.Drawing.{box_of, owned}
use Rattle.heap_pictures.proofs.handles.push_boxes.Given as goal

abbrev pub invariant-loop-i : goal.invariant-loop-i
invariant-loop-i l = l.arrows.items ≡ l.fn.arrows.items ++ flat_map (λ h. box_of l.joint (owned l.joint) h (numbered_at l.joint.graph.peers.issued h)) (range_with_len 1 l.i)
