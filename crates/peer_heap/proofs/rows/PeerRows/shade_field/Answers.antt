-- What the field holds that is to be written is visited, if a marking is open.
use Rattle.std.proofs.Common.{◌≡◌, true, Some, ap, subst, sym, ◌∙◌}
use Rattle.std.proofs.lemmas.Bool.{true≢false}
use Rattle.std.proofs.lemmas.Option.{none-some, same_Some}
use Rattle.row_heap.specs.Marks.{overwritten}
use Rattle.row_heap.specs.Rows.{HeapRows}
use Rattle.row_heap.proofs.Edges.{rest-kept}
use Rattle.row_marking.specs.Traces.{Greyed}
use Rattle.row_marking.proofs.Greys.{Greyed-as, Greyed-none}
use Rattle.peer_heap.specs.Rows.{Rows, rows_with}
use Rattle.peer_heap.proofs.Fitting.{ArePeerRows-marked}
use Rattle.peer_heap.proofs.rows.PeerRows.shade_field.Goals as goal

pub visit-requires-clause-some : goal.visit-requires-clause-some
visit-requires-clause-some c = c.in-Some.ensures.live.made.0

pub visit-requires-clause-row : goal.visit-requires-clause-row
visit-requires-clause-row c = c.in-Some.ensures.live

pub invariant_of-self : goal.invariant_of-self
invariant_of-self c = ArePeerRows-marked c.self.inside.heap c.visit.new.g _ _ _
    (ap (λ (v : HeapRows). v.heap.fields) (rest-kept c.self.inside.heap c.visit.new.g c.visit.ensures.kept)) c.self.invariant

pub returns-then-not-is_open-clause-shaded : goal.returns-then-not-is_open-clause-shaded
returns-then-not-is_open-clause-shaded c = Greyed-none _ _ _ _ (λ k w. true≢false (sym w.0 ∙ c.if-not-is_open.true))

pub returns-in-None-clause-shaded : goal.returns-in-None-clause-shaded
returns-in-None-clause-shaded c =
    let i = c.self.inside in
    subst (λ (z : Rows). Greyed (λ k. (c.args.is_open ≡ true) × (overwritten z.rows.heap c.args.v c.args.i c.args.w ≡ Some k))
    z.rows.marks z.rows.links c.args.grey.now z.rows.marks z.rows.links c.args.grey.now) c.self.view_is
    (Greyed-none _ _ _ _ (λ k w. none-some k (c.in-None.ensures.value ∙ w.1)))

pub returns-in-Some-clause-rest : goal.returns-in-Some-clause-rest
returns-in-Some-clause-rest c =
    let i = c.self.inside in
    rw (← c.self.view_is) (ap (λ (v : HeapRows). rows_with v i.sorts.items i.names i.issued i.table) (rest-kept i.heap c.visit.new.g c.visit.ensures.kept))

pub returns-in-Some-clause-shaded : goal.returns-in-Some-clause-shaded
returns-in-Some-clause-shaded c =
    let y = c.in-Some.y in
    let own = c.in-Some.ensures.value in
    let new = c.visit.new.g in
    subst (λ (z : Rows). Greyed (λ k. (c.args.is_open ≡ true) × (overwritten z.rows.heap c.args.v c.args.i c.args.w ≡ Some k))
    z.rows.marks z.rows.links c.args.grey.now new.marks new.links c.visit.new.grey) c.self.view_is
    (Greyed-as _ _ _ _ _ _ _ _ (λ k w. sym (same_Some y k (own ∙ w.1))) (λ k w. (c.if-not-is_open.false, sym own ∙ ap (λ z. Some z) (sym w))) c.visit.ensures.greyed)
