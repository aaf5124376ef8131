-- The slots so far are done.
use Rattle.std.proofs.Common.{◌≡◌, Contains, take, Some}
use Rattle.row_marking.specs.Traces.{Greyed}
use Rattle.row_heap.specs.Marks.{unmarked_rows}
use Rattle.row_heap.proofs.heap.RowHeap.visit_vars.Given as goal

abbrev pub invariant-loop-place : goal.invariant-loop-place
invariant-loop-place g l = record {
  kept : unmarked_rows l.self ≡ unmarked_rows l.fn.self;
  greyed : Greyed (λ x. Contains (take l.place l.fn.self.heap.vars) (Some x)) l.fn.self.marks l.fn.self.links l.fn.grey l.self.marks l.self.links l.grey;
}
