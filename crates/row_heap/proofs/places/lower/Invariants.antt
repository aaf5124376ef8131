-- The marks so far are down.
use Rattle.std.proofs.Common.{◌≡◌, false, length, take}
use Rattle.std.specs.Prelude.{All}
use Rattle.row_heap.proofs.places.lower.Given as goal

abbrev pub invariant-loop-i : goal.invariant-loop-i
invariant-loop-i l = (length l.marks.items ≡ length l.fn.marks.items) × All (λ m. m ≡ false) (take l.i l.marks.items)
