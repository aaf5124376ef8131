-- Of few fields both places are looked at: what they hold is what the fields hold.
use Rattle.std.proofs.Common.{ℕ, ◌∙◌, inl, inr, Some, List, Option, sym, ap, subst, arith}
use Rattle.std.specs.Prelude.{Contains}
use Rattle.row_marking.proofs.Greys.{Greyed-then}
use Rattle.row_heap.specs.Cells.{AreCells, cells_in}
use Rattle.row_heap.proofs.Cells.{few-held, few-places}
use Rattle.row_heap.proofs.fields.Fields.visit.Goals as goal

pub visit_field-requires-clause-held : goal.visit_field-requires-clause-held
visit_field-requires-clause-held c = λ y e.
    let view = sym (ap cells_in c.in-Few.is) ∙ c.self.view_is in
    let are = subst AreCells c.in-Few.is c.self.invariant in
    c.requires.held y (subst (λ (l : List (Option ℕ)). Contains l (Some y)) view (few-held c.in-Few.field-0 c.in-Few.cells 0 y are.1 e))

pub visit_field-requires-in-Few-clause-held : goal.visit_field-requires-in-Few-clause-held
visit_field-requires-in-Few-clause-held c = λ y e.
    let view = sym (ap cells_in c.in-Few.is) ∙ c.self.view_is in
    let are = subst AreCells c.in-Few.is c.self.invariant in
    let w = c.requires.held y (subst (λ (l : List (Option ℕ)). Contains l (Some y)) view (few-held c.in-Few.field-0 c.in-Few.cells 1 y are.1 e)) in
    (w.0, omega (arith, w.1, c.visit_field.ensures.len.0))

pub visit_fields-requires-clause-held : goal.visit_fields-requires-clause-held
visit_fields-requires-clause-held c = λ y h.
    let view = sym (ap cells_in c.in-More.is) ∙ c.self.view_is in
    c.requires.held y (subst (λ (l : List (Option ℕ)). Contains l (Some y)) (c.as_slice.ensures.value ∙ view) h)

pub returns-in-Few-clause-fresh : goal.returns-in-Few-clause-fresh
returns-in-Few-clause-fresh c = λ k m.
    let view = sym (ap cells_in c.in-Few.is) ∙ c.self.view_is in
    let are = subst AreCells c.in-Few.is c.self.invariant in
    elim (c.visit_field-in-Few.ensures.fresh k m) [
      | inl w ↦ elim (c.visit_field.ensures.fresh k w) [
        | inl v ↦ inl v
        | inr v ↦ inr (subst (λ (l : List (Option ℕ)). Contains l (Some k)) view (few-held c.in-Few.field-0 c.in-Few.cells 0 k are.1 v))
      ]
      | inr w ↦ inr (subst (λ (l : List (Option ℕ)). Contains l (Some k)) view (few-held c.in-Few.field-0 c.in-Few.cells 1 k are.1 w))
    ]

pub returns-in-Few-clause-greyed : goal.returns-in-Few-clause-greyed
returns-in-Few-clause-greyed c =
    let view = sym (ap cells_in c.in-Few.is) ∙ c.self.view_is in
    let are = subst AreCells c.in-Few.is c.self.invariant in
    Greyed-then _ _ (λ y. Contains c.args.self.now (Some y)) _ _ _ _ _ _ _ _ _
    (λ y h. few-places c.in-Few.field-0 c.in-Few.cells y are.0 (subst (λ (l : List (Option ℕ)). Contains l (Some y)) (sym view) h))
    (λ y e. subst (λ (l : List (Option ℕ)). Contains l (Some y)) view (few-held c.in-Few.field-0 c.in-Few.cells 0 y are.1 e))
    (λ y e. subst (λ (l : List (Option ℕ)). Contains l (Some y)) view (few-held c.in-Few.field-0 c.in-Few.cells 1 y are.1 e))
    c.visit_field.ensures.greyed c.visit_field-in-Few.ensures.greyed

pub returns-in-Few-clause-raised : goal.returns-in-Few-clause-raised
returns-in-Few-clause-raised c = λ k m. c.visit_field-in-Few.ensures.raised k (c.visit_field.ensures.raised k m)
