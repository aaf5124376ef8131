-- The variables are done, and then the statics.
use Rattle.std.proofs.Common.{Some, inl, inr, ap, subst}
use Rattle.std.specs.Prelude.{Contains}
use Rattle.joint_machine.specs.Heaps.{InSlot}
use Rattle.row_marking.specs.Traces.{Greyed}
use Rattle.row_marking.proofs.Greys.{Greyed-then}
use Rattle.row_heap.specs.Rows.{HeapRows}
use Rattle.row_heap.proofs.heap.RowHeap.visit_slots.Goals as goal

pub returns-clause-greyed : goal.returns-clause-greyed
returns-clause-greyed g c =
    let h = c.args.self.now.heap in
    let second = subst (λ l. Greyed (λ x. Contains l (Some x)) c.visit_vars.new.self.marks c.visit_vars.new.self.links
    c.visit_vars.new.grey c.visit_statics.new.self.marks c.visit_statics.new.self.links c.visit_statics.new.grey)
    (ap (λ (v : HeapRows). v.heap.statics) c.visit_vars.ensures.rest) c.visit_statics.ensures.greyed in
    Greyed-then (λ x. Contains h.vars (Some x)) (λ x. Contains h.statics (Some x)) (InSlot h) _ _ _ _ _ _ _ _ _ (λ x r. r) (λ x r. inl r) (λ x r. inr r) c.visit_vars.ensures.greyed second
