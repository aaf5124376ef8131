-- The pins so far are done.
use Rattle.std.proofs.Common.{◌≡◌, Contains, take, Some}
use Rattle.row_marking.specs.Traces.{Greyed}
use Rattle.row_heap.specs.Marks.{unmarked_rows}
use Rattle.managed_heap.specs.Pinned.{pins_given}
use Rattle.managed_heap.proofs.snapshots.visit_pins.Given as goal

abbrev pub invariant-loop-t : goal.invariant-loop-t
invariant-loop-t l = record {
  kept : unmarked_rows l.heap ≡ unmarked_rows l.fn.heap;
  greyed : Greyed (λ x. Contains (pins_given (take l.t l.pins.at)) (Some x)) l.fn.heap.marks l.fn.heap.links l.fn.grey l.heap.marks l.heap.links l.grey;
}
