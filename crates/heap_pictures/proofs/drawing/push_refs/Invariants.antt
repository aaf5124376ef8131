use Rattle.std.proofs.Common.{◌≡◌, ◌++◌, take, map}
use Rattle.std.specs.List.{flat_map}
use Rattle.heap_views.specs.Mirrored.{ends_as}
use Rattle.heap_pictures.specs.Drawing.{ref_arrow}
use Rattle.heap_pictures.proofs.drawing.push_refs.Given as goal

abbrev pub invariant-loop-ends : goal.invariant-loop-ends
invariant-loop-ends l = l.arrows.items ≡ l.fn.arrows.items ++ flat_map (ref_arrow l.view.joint) (map ends_as (take l.ends-index l.ends-items))
