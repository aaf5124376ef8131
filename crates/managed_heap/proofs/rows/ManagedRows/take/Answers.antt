-- What the pin holds is live.
use Rattle.std.proofs.Common.{◌∙◌, Option, ap, subst}
use Rattle.std.specs.Prelude.{IfSome}
use Rattle.std.proofs.lemmas.Option.{same_Some}
use Rattle.joint_machine.specs.declared.names.MNum.{MNum}
use Rattle.joint_machine.specs.Heaps.{IsLive}
use Rattle.row_heap.specs.Rows.{HeapRows}
use Rattle.managed_heap.proofs.Dues.{AreDues-var}
use Rattle.managed_heap.proofs.rows.ManagedRows.take.Goals as goal

pub set_var-requires-clause-live : goal.set_var-requires-clause-live
set_var-requires-clause-live c =
    let live = subst (λ (o : Option MNum). IfSome o (λ m. IsLive c.self.inside.heap.heap m.0)) c.in-Some.is (rw (← c.self.view_is) at c.requires.live) in
    λ x e. subst (λ z. IsLive c.self.inside.heap.heap z) (same_Some c.in-Some.m.0 x e) live

pub invariant_of-self : goal.invariant_of-self
invariant_of-self c = (
  c.self.invariant.0,
  ap (λ (v : HeapRows). v.refs) c.set_var.ensures ∙ c.self.invariant.1,
  ap (λ (v : HeapRows). v.follows) c.set_var.ensures ∙ c.self.invariant.2,
  AreDues-var c.self.inside.cycle c.self.inside.heap c.set_var.new.self c.self.inside.notices.spare _ _ c.set_var.ensures c.self.invariant.3,
)
