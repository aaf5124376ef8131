-- The one object is in no slot.
use Rattle.std.proofs.Common.{inl, inr, subst, ap, ◌∙◌}
use Rattle.joint_machine.specs.Heaps.{InSlot, with_object}
use Rattle.joint_machine.proofs.Numbered.{replicate-none}
use Rattle.row_heap.specs.Rows.{HeapRows}
use Rattle.store_tests.proofs.row_heaps.sweeps.Goals as goal

pub sweep-requires-clause-slots : goal.sweep-requires-clause-slots
sweep-requires-clause-slots c = λ x i.
    let made = ap (λ (v : HeapRows). v.heap) c.begin_marking.ensures.rest ∙ (ap (λ (v : HeapRows). v.heap) c.in_ok-first.ensures.ok ∙ ap (λ (v : HeapRows). with_object v.heap 0) c.requires) in
    elim (subst (λ h. InSlot h x) made i) [ inl v ↦ absurd (replicate-none 72 x v) | inr v ↦ absurd (replicate-none 16 x v) ]
