-- The slots so far are done.
use Rattle.std.proofs.Common.{◌≡◌, Contains, take, Some}
use Rattle.row_marking.specs.Traces.{Greyed}
use Rattle.row_heap.specs.Marks.{unmarked_rows}
use Rattle.row_heap.proofs.heap.RowHeap.visit_statics.Given as goal

abbrev pub invariant-loop-s : goal.invariant-loop-s
invariant-loop-s g l = record {
  kept : unmarked_rows l.self ≡ unmarked_rows l.fn.self;
  greyed : Greyed (λ x. Contains (take l.s l.fn.self.heap.statics) (Some x)) l.fn.self.marks l.fn.self.links l.fn.grey l.self.marks l.self.links l.grey;
}
