-- A twin is live: its pair has a row that holds a handle.
use Rattle.std.proofs.Common.{◌∙◌, ap, subst}
use Rattle.row_heap.specs.Rows.{HeapRows}
use Rattle.managed_heap.proofs.Dues.{AreDues-var}
use Rattle.std.proofs.lemmas.Option.{same_Some}
use Rattle.joint_machine.specs.Heaps.{IsLive}
use Rattle.joint_laws.proofs.Registered.{registered-some}
use Rattle.managed_heap.proofs.rows.ManagedRows.meet_now.Goals as goal

pub set_var-requires-clause-live : goal.set_var-requires-clause-live
set_var-requires-clause-live c =
    let s = c.args.self.now in
    let m = c.in-Some.m.0 in
    let live = (c.requires.kept.1.pairs c.args.p.0 m (registered-some s.registry c.args.p.0 m c.in-Some.ensures)).1.live in
    λ x e. subst (λ z. IsLive c.self.inside.heap.heap z) (same_Some m x e) (rw (← c.self.view_is) at live)

pub invariant_of-self : goal.invariant_of-self
invariant_of-self c = (
  c.self.invariant.0,
  ap (λ (v : HeapRows). v.refs) c.set_var.ensures ∙ c.self.invariant.1,
  ap (λ (v : HeapRows). v.follows) c.set_var.ensures ∙ c.self.invariant.2,
  AreDues-var c.self.inside.cycle c.self.inside.heap c.set_var.new.self c.self.inside.notices.spare _ _ c.set_var.ensures c.self.invariant.3,
)
