-- The lists say where the end's references begin.
use Rattle.std.proofs.Common.{◌∙◌, ap, slice_index_or}
use Rattle.joint_machine.specs.Components as exact
use Rattle.row_heap.proofs.Linked.{last-at}
use Rattle.row_heap.proofs.references.References.first.Goals as goal

pub returns-in-Object : goal.returns-in-Object
returns-in-Object c = rw c.in-Object.is (last-at _ _ _ _ _ _ _ _ _ (exact.node c.in-Object.x) _ c.self.view_is c.self.invariant
    (c.first_at.ensures ∙ ap (λ l. slice_index_or l c.in-Object.x 0) c.as_slice.ensures.value))

pub returns-in-Temporary : goal.returns-in-Temporary
returns-in-Temporary c =
    rw c.in-Temporary.is (last-at _ _ _ _ _ _ _ _ _ (exact.temporary c.in-Temporary.t) _ c.self.view_is c.self.invariant
    (c.first_at-in-Temporary.ensures ∙ ap (λ l. slice_index_or l c.in-Temporary.t 0) c.as_slice-in-Temporary.ensures.value))
