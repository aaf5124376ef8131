-- The further row has no peer beside it, and the registry stays.
use Rattle.std.proofs.Common.{◌∙◌, ap, refl}
use Rattle.row_heap.specs.Rows.{HeapRows}
use Rattle.managed_heap.proofs.Dues.{AreDues-object}
use Rattle.std.proofs.lemmas.Result.{IfOk-from_err}
use Rattle.managed_heap.proofs.Peers.{ArePeers-row}
use Rattle.managed_heap.proofs.rows.ManagedRows.add_row.Goals as goal

pub invariant_of-self : goal.invariant_of-self
invariant_of-self c = rw (c.in_err-x.ensures.err.1, c.in_err-x.ensures.err.0) c.self.invariant

pub returns-in_err-x-clause-number : goal.returns-in_err-x-clause-number
returns-in_err-x-clause-number c = IfOk-from_err c.from_residual.result _ c.from_residual.ensures.0

pub invariant_of-self-2 : goal.invariant_of-self-2
invariant_of-self-2 c =
    let is = c.in_ok-x.ensures.heap in (
      rw c.in_ok-x.ensures.headers (ArePeers-row c.self.inside.registry c.self.inside.headers.items _ refl c.self.invariant.0),
      ap (λ (v : HeapRows). v.refs) is ∙ c.self.invariant.1,
      ap (λ (v : HeapRows). v.follows) is ∙ c.self.invariant.2,
      AreDues-object c.self.inside.cycle c.self.inside.heap c.add_object.new.heap c.self.inside.notices.spare _ _ _ c.recall_marks_len.ensures is c.self.invariant.3,
    )
