-- A row with a mark was made.
use Rattle.std.proofs.Common.{subst, sym, ◌∙◌, arith}
use borrow.Author.Tests.{both_ways}
use Rattle.reachability.specs.Marks.{HasMark}
use Rattle.row_heap.specs.Rows.{HeapRows}
use Rattle.row_heap.proofs.Tested.{number-in, number-none, number-past}
use Rattle.row_heap.proofs.Edges.{marked-within}
use Rattle.row_heap.proofs.Walked.{marked-row, row-marked}
use Rattle.row_heap.proofs.heap.RowHeap.is_marked.Goals.{then-x-ne0, else-x-ne0}
use Rattle.row_heap.proofs.heap.RowHeap.is_marked.Goals as goal

pub is_marked-requires : goal.is_marked-requires
is_marked-requires g c = elim c.if-x-ne0.branch [
  | then-x-ne0 w ↦ number-in _ _ _ _ w.if-x-ne0.true w.value-is w.made.ensures c.if-x-made.true
  | else-x-ne0 w ↦ absurd (number-none _ _ w.if-x-ne0.false w.value-is c.if-x-made.true)
]

pub returns-then-x-made : goal.returns-then-x-made
returns-then-x-made g c = rw (← c.self.view_is) (
  (λ t. row-marked c.self.inside.rows c.args.x (sym c.is_marked.ensures ∙ t)),
  (λ m. c.is_marked.ensures ∙ marked-row c.self.inside.rows c.args.x m),
)

pub returns-else-x-made : goal.returns-else-x-made
returns-else-x-made g c = (
  (λ t. absurd (both_ways _ c.if-x-made.false t)),
  (λ m.
      let w = marked-within c.self.inside.rows c.args.x (subst (λ (v : HeapRows). HasMark v.marks c.args.x) (sym c.self.view_is) m) in
      absurd (elim c.if-x-ne0.branch [ then-x-ne0 u ↦ omega (arith, w.1, number-past _ _ _ _ u.value-is u.made.ensures c.if-x-made.false) | else-x-ne0 u ↦ omega (arith, w.0, u.if-x-ne0.false) ])),
)
