-- What an open cycle keeps ready stays so.
use Rattle.std.proofs.Common.{◌∙◌, ap}
use Rattle.joint_machine.specs.Managed.{managed_name}
use Rattle.joint_laws.proofs.HeapMoves.{copied-moved}
use Rattle.row_heap.specs.Rows.{HeapRows}
use Rattle.managed_heap.proofs.Dues.{AreDues-moved}
use Rattle.managed_heap.proofs.rows.ManagedRows.copy.Goals as goal

pub invariant_of-self : goal.invariant_of-self
invariant_of-self c = (
  c.self.invariant.0,
  ap (λ (v : HeapRows). v.refs) c.copy-done.ensures.rest ∙ c.self.invariant.1,
  ap (λ (v : HeapRows). v.follows) c.copy-done.ensures.rest ∙ c.self.invariant.2,
  AreDues-moved c.self.inside.cycle c.self.inside.heap c.copy-done.new.self c.self.inside.notices.spare _ _
      (copied-moved managed_name c.self.inside.heap.heap c.args.v c.args.w) (c.copy-done.ensures.done managed_name) c.copy-done.ensures.rest c.self.invariant.3,
)
