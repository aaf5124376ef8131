use Rattle.std.proofs.Common.{◌≡◌, [], ◌++◌}
use Rattle.std.specs.List.{flat_map, range_with_len}
use Rattle.joint_machine.specs.Heaps.{numbered_at, slot}
use Rattle.heap_pictures.specs.Drawing.{slot_arrow}
use Rattle.heap_pictures.proofs.slots.push_slots.Given as goal

abbrev pub invariant-loop-i : goal.invariant-loop-i
invariant-loop-i l = l.arrows.items ≡ l.fn.arrows.items ++ flat_map (λ i. slot_arrow l.joint l.slots i (slot l.held i)) (range_with_len 0 l.i)
