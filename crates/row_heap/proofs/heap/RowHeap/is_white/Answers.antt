-- A white row is a live object's without a mark.
use Rattle.std.proofs.Common.{◌∙◌, ◌≤◌, length, sym, arith}
use Rattle.row_heap.proofs.Swept.{white-seen}
use borrow.Author.Tests.{both_ways}
use Rattle.row_heap.proofs.Tested.{number-in, number-none, number-past}
use Rattle.row_heap.proofs.Indexed.{stands-within}
use Rattle.row_heap.proofs.Walked.{stands-seen}
use Rattle.row_heap.proofs.heap.RowHeap.is_white.Goals as goal
use Rattle.row_heap.proofs.heap.RowHeap.is_white.Goals.{then-x-ne0, else-x-ne0}

pub returns-then-x-made : goal.returns-then-x-made
returns-then-x-made g c =
    let w = white-seen _ _ _ _ c.self.inside.references _ _ c.args.self.now c.args.x c.self.view_is c.self.invariant.0.sound in
    let made : (1 ≤ c.args.x) × (c.args.x ≤ length c.self.inside.rows) = elim c.if-x-ne0.branch
    [ then-x-ne0 w ↦ number-in _ _ _ _ w.if-x-ne0.true w.value-is w.made.ensures c.if-x-made.true | else-x-ne0 w ↦ absurd (number-none _ _ w.if-x-ne0.false w.value-is c.if-x-made.true) ] in (
      (λ t. w.0 (made.1, sym c.is_white.ensures ∙ t)),
      (λ l. c.is_white.ensures ∙ (w.1 l).1),
    )

pub is_white-requires : goal.is_white-requires
is_white-requires g c = elim c.if-x-ne0.branch [
  | then-x-ne0 w ↦ number-in _ _ _ _ w.if-x-ne0.true w.value-is w.made.ensures c.if-x-made.true
  | else-x-ne0 w ↦ absurd (number-none _ _ w.if-x-ne0.false w.value-is c.if-x-made.true)
]

pub returns-else-x-made : goal.returns-else-x-made
returns-else-x-made g c = (
  (λ t. absurd (both_ways _ c.if-x-made.false t)),
  (λ l.
      let w = stands-within c.self.inside.rows c.args.x (stands-seen _ _ _ _ c.self.inside.references _ _ c.args.self.now c.args.x c.self.view_is c.self.invariant.0.sound l.0) in
      absurd (elim c.if-x-ne0.branch [ then-x-ne0 u ↦ omega (arith, w.1, number-past _ _ _ _ u.value-is u.made.ensures c.if-x-made.false) | else-x-ne0 u ↦ omega (arith, w.0, u.if-x-ne0.false) ])),
)
