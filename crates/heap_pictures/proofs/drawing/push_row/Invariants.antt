use Rattle.std.proofs.Common.{◌≡◌, [], ◌++◌}
use Rattle.std.specs.List.{flat_map, range_with_len}
use Rattle.heap_pictures.specs.Drawing.{field_arrow}
use Rattle.heap_pictures.proofs.drawing.push_row.Given as goal

abbrev pub invariant-loop-i : goal.invariant-loop-i
invariant-loop-i l = l.arrows.items ≡ l.fn.arrows.items ++ flat_map (field_arrow l.side l.heap l.x) (range_with_len 0 l.i)
