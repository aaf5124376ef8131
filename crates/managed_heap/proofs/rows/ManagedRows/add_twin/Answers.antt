-- A row that comes with a pair; where the object found no memory, the pair that was put last is taken out again.
use Rattle.std.proofs.Common.{◌≡◌, ◌+◌, length, refl, ap, ◌∙◌, arith}
use Rattle.std.proofs.lemmas.List.{length-map}
use Rattle.instance_registry.specs.Pairs.{without}
use Rattle.instance_registry.proofs.Pairs.{without-push}
use Rattle.row_heap.specs.Rows.{HeapRows}
use Rattle.managed_heap.specs.declared.rows.Header.{Header}
use Rattle.managed_heap.proofs.Dues.{AreDues-object}
use Rattle.std.proofs.lemmas.Result.{IfOk-from_err}
use Rattle.managed_heap.proofs.Given.{alone-twin}
use Rattle.managed_heap.proofs.Peers.{ArePeers-pair}
use Rattle.managed_heap.proofs.rows.ManagedRows.add_twin.Goals as goal

pub add-requires : goal.add-requires
add-requires c = alone-twin c.self.inside.registry c.args.p (rw (← c.self.view_is) at c.requires.alone)

pub invariant_of-self : goal.invariant_of-self
invariant_of-self c = rw c.in_err-add.ensures.err c.self.invariant

pub returns-in_err-add-clause-number : goal.returns-in_err-add-clause-number
returns-in_err-add-clause-number c = IfOk-from_err c.from_residual.result _ c.from_residual.ensures.0

pub invariant_of-self-in-Err : goal.invariant_of-self-in-Err
invariant_of-self-in-Err c =
    let ps = c.self.inside.registry in
    let pushed = c.in_ok-add.ensures.ok in
    let alone = rw (← c.self.view_is) at c.requires.alone in
    let back : c.forget.new.self ≡ ps = c.forget.ensures.pairs ∙ (ap (λ z. without z c.args.p) pushed ∙ without-push ps c.args.p record { 0 = c.made-next.result + 1 } (alone-twin ps c.args.p alone))
    in
    rw (back, c.in-Err.ensures.err.1, c.in-Err.ensures.err.0) c.self.invariant

pub returns-in-Err-clause-err : goal.returns-in-Err-clause-err
returns-in-Err-clause-err c =
    let ps = c.self.inside.registry in
    let pushed = c.in_ok-add.ensures.ok in
    let alone = rw (← c.self.view_is) at c.requires.alone in
    let back : c.forget.new.self ≡ ps = c.forget.ensures.pairs ∙ (ap (λ z. without z c.args.p) pushed ∙ without-push ps c.args.p record { 0 = c.made-next.result + 1 } (alone-twin ps c.args.p alone))
    in
    rw (back, c.in-Err.ensures.err.1, c.in-Err.ensures.err.0) c.self.view_is

pub invariant_of-self-in-Ok : goal.invariant_of-self-in-Ok
invariant_of-self-in-Ok c =
    let pushed = c.in_ok-add.ensures.ok in
    let headers = c.self.inside.headers.items in
    let places = (rw (← c.self.view_is) at c.requires.kept).1.managed.places in
    let next : c.made-next.result + 1 ≡ length headers + 1 = omega (arith, c.made-next.ensures.made, places, length-map headers (λ (j : Header). j.handle)) in
    let is = c.in-Ok.ensures.heap in (
      rw (c.in-Ok.ensures.headers, pushed) (ArePeers-pair c.self.inside.registry headers _ c.args.p record { 0 = c.made-next.result + 1 } refl next c.self.invariant.0),
      ap (λ (v : HeapRows). v.refs) is ∙ c.self.invariant.1,
      ap (λ (v : HeapRows). v.follows) is ∙ c.self.invariant.2,
      AreDues-object c.self.inside.cycle c.self.inside.heap c.add_object.new.heap c.self.inside.notices.spare _ _ _ c.recall_marks_len.ensures is c.self.invariant.3,
    )
