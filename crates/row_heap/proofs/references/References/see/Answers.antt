-- The temporaries have flags and links as rows have marks and links.
use Rattle.std.proofs.Common.{◌≡◌, ◌∙◌, ◌+◌, ◌∷◌, false, length, sym, ap, arith}
use Rattle.std.proofs.lemmas.List.{with_items_is}
use Rattle.row_heap.specs.Ends.{Linked}
use Rattle.row_heap.proofs.Linked.{Greyed-same}
use Rattle.row_heap.proofs.references.References.see.Goals as goal

pub overflow_add-t : goal.overflow_add-t
overflow_add-t c = omega (arith, c.requires, c.self.invariant.few, ap (λ (v : Linked). v.temps) c.self.view_is)

pub returns-clause-greyed : goal.returns-clause-greyed
returns-clause-greyed c =
    let s = c.self.inside in
    let em : length c.visit_row.new.marks ≡ length s.seen.items = c.visit_row.ensures.len.0 ∙ ap length c.deref_mut.ensures.value in
    let el : length c.visit_row.new.links ≡ length s.links.items = c.visit_row.ensures.len.1 ∙ ap length c.deref_mut-2.ensures.value in
    let marks = with_items_is s.seen c.visit_row.new.marks (em ∙ sym s.seen.ok.0) in
    let links = with_items_is s.links c.visit_row.new.links (el ∙ sym s.links.ok.0) in
    Greyed-same (λ n. n ≡ c.args.t + 1) _ _ _ _ _ _ _ _ _ _ (ap (λ ms. false ∷ ms) c.deref_mut.ensures.value ∙ ap (λ (v : Linked). v.seen) c.self.view_is)
    (ap (λ ls. 0 ∷ ls) c.deref_mut-2.ensures.value ∙ ap (λ (v : Linked). v.links) c.self.view_is)
    (ap (λ ms. false ∷ ms) (sym marks)) (ap (λ ls. 0 ∷ ls) (sym links)) c.visit_row.ensures.greyed
