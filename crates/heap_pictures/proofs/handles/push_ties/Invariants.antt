use Rattle.std.proofs.Common.{◌≡◌, [], ◌++◌}
use Rattle.std.specs.List.{flat_map, range_with_len}
use Rattle.heap_pictures.specs.Drawing.{tie}
use Rattle.heap_pictures.proofs.handles.push_ties.Given as goal

abbrev pub invariant-loop-i : goal.invariant-loop-i
invariant-loop-i l = l.arrows.items ≡ l.fn.arrows.items ++ flat_map (tie l.view) (range_with_len 1 l.i)
