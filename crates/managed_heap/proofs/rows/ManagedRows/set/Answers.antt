-- What an open cycle keeps ready stays so.
use Rattle.std.proofs.Common.{◌∙◌, ap}
use Rattle.joint_machine.specs.Managed.{managed_name}
use Rattle.joint_laws.proofs.HeapMoves.{field_set-moved}
use Rattle.row_heap.specs.Rows.{HeapRows}
use Rattle.managed_heap.proofs.Dues.{AreDues-moved}
use Rattle.managed_heap.proofs.rows.ManagedRows.set.Goals as goal

pub invariant_of-self : goal.invariant_of-self
invariant_of-self c = (
  c.self.invariant.0,
  ap (λ (v : HeapRows). v.refs) c.set-done.ensures.rest ∙ c.self.invariant.1,
  ap (λ (v : HeapRows). v.follows) c.set-done.ensures.rest ∙ c.self.invariant.2,
  AreDues-moved c.self.inside.cycle c.self.inside.heap c.set-done.new.self c.self.inside.notices.spare _ _
      (field_set-moved c.self.inside.heap.heap c.args.v c.args.i c.args.w) (c.set-done.ensures.done managed_name) c.set-done.ensures.rest c.self.invariant.3,
)
