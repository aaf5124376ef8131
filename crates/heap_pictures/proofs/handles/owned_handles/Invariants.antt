use Rattle.std.proofs.Common.{◌≡◌, [], ◌++◌}
use Rattle.std.specs.List.{flat_map, range_with_len}
use Rattle.heap_pictures.specs.Drawing.{handle_list}
use Rattle.heap_pictures.proofs.handles.owned_handles.Given as goal

abbrev pub invariant-loop-i : goal.invariant-loop-i
invariant-loop-i l = l.handles.items ≡ [] ++ flat_map (handle_list l.joint) (range_with_len 1 l.i)
