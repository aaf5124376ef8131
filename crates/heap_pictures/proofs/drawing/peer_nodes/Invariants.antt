use Rattle.std.proofs.Common.{◌≡◌, [], ◌++◌}
use Rattle.std.specs.List.{flat_map, range_with_len}
use Rattle.heap_pictures.specs.Drawing.{peer_node}
use Rattle.heap_pictures.proofs.drawing.peer_nodes.Given as goal

abbrev pub invariant-loop-i : goal.invariant-loop-i
invariant-loop-i l = l.nodes.items ≡ [] ++ flat_map (peer_node l.joint) (range_with_len 1 l.i)
