-- What an open cycle keeps ready stays so.
use Rattle.std.proofs.Common.{◌∙◌, ap}
use Rattle.joint_machine.specs.Managed.{managed_name}
use Rattle.joint_laws.proofs.HeapMoves.{stored-moved}
use Rattle.row_heap.specs.Rows.{HeapRows}
use Rattle.managed_heap.proofs.Dues.{AreDues-moved}
use Rattle.managed_heap.proofs.rows.ManagedRows.store.Goals as goal

pub invariant_of-self : goal.invariant_of-self
invariant_of-self c = (
  c.self.invariant.0,
  ap (λ (v : HeapRows). v.refs) c.store-done.ensures.rest ∙ c.self.invariant.1,
  ap (λ (v : HeapRows). v.follows) c.store-done.ensures.rest ∙ c.self.invariant.2,
  AreDues-moved c.self.inside.cycle c.self.inside.heap c.store-done.new.self c.self.inside.notices.spare _ _
      (stored-moved c.self.inside.heap.heap c.args.s c.args.v) (c.store-done.ensures.done managed_name) c.store-done.ensures.rest c.self.invariant.3,
)
