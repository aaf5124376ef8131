-- An empty heap is sound.
use Rattle.std.proofs.Common.{refl, ap, map}
use Rattle.row_heap.proofs.FieldCounts.{count-none}
use Rattle.row_heap.proofs.Gone.{gone-none}
use Rattle.row_heap.proofs.Sound.{IsRowHeap-empty}
use Rattle.row_heap.proofs.heap.RowHeap.new.Goals as goal

pub invariant_of-result : goal.invariant_of-result
invariant_of-result g c = (IsRowHeap-empty _ _ _ _ _ _ c.new.ensures (ap (map g.N.Number.number) c.list_with_room.ensures) refl refl c.new-2.ensures, gone-none _, count-none _ c.new.ensures)
