-- A row that stands is marked by the lists.
use Rattle.std.proofs.Common.{◌≡◌, ℕ, ◌∙◌, ◌∷◌, [], ◌⊎◌, inl, inr, Bool, false, true, List, length, map, Option, Some, refl, sym, ap, subst, arith}
use Rattle.std.specs.Prelude.{Contains}
use Rattle.std.specs.Vec.{with_items}
use Rattle.std.proofs.lemmas.List.{length-map, with_items_is}
use Rattle.joint_machine.proofs.Members.{Contains-cons_cases, Contains-here, Contains-nil}
use Rattle.reachability.specs.Marks.{HasMark}
use Rattle.row_marking.specs.Traces.{Greyed}
use Rattle.row_heap.specs.Ends.{Raises}
use Rattle.row_heap.specs.Places.{AreRows, bare, row_at, seen_at}
use Rattle.row_heap.proofs.Indexed.{stands-within}
use Rattle.row_heap.proofs.Marked.{greyed-rows, len-under, map-under, marks-rows, visited-are}
use Rattle.row_heap.proofs.places.Rows.visit.Goals as goal

pub visit_row-requires-clause-row : goal.visit_row-requires-clause-row
visit_row-requires-clause-row c =
    let s = c.self.inside in
    let w = stands-within c.args.self.now c.args.y c.requires in
    (w.0, omega (arith, w.1, len-under s.slab s.places.items c.args.self.now s.marks.items s.links.items c.self.view_is, c.self.invariant.marks_len, ap length c.deref_mut.ensures.value))

pub invariant_of-self : goal.invariant_of-self
invariant_of-self c =
    let s = c.self.inside in
    let y : List (Option ℕ) = Some c.args.y ∷ [] in
    let held : (z : ℕ) → Contains y (Some z) → (row_at c.args.self.now z).stands ≡ true =
    λ z h. elim (Contains-cons_cases (Some c.args.y) [] (Some z) h) [
      | inl e ↦ (let same : c.args.y ≡ z = cc in subst (λ n. (row_at c.args.self.now n).stands ≡ true) same c.requires)
      | inr w ↦ absurd (Contains-nil (Some z) w)
    ] in
    let em : length c.visit_row.new.marks ≡ length s.marks.items = c.visit_row.ensures.len.0 ∙ ap length c.deref_mut.ensures.value in
    let el : length c.visit_row.new.links ≡ length s.links.items = c.visit_row.ensures.len.1 ∙ ap length c.deref_mut-2.ensures.value in
    let marks = with_items_is s.marks c.visit_row.new.marks (em ∙ sym s.marks.ok.0) in
    let links = with_items_is s.links c.visit_row.new.links (el ∙ sym s.links.ok.0) in
    let anew : (k : ℕ) → HasMark (false ∷ c.visit_row.new.marks) k → HasMark (false ∷ c.deref_mut.result.now) k ⊎ Contains y (Some k) =
    λ k m. elim (c.visit_row.ensures.fresh k m) [ inl w ↦ inl w | inr w ↦ inr (subst (λ n. Contains y (Some n)) (sym w) (Contains-here (Some c.args.y) [])) ] in
    let fresh = subst (λ (ms : List Bool). (k : ℕ) → HasMark (false ∷ c.visit_row.new.marks) k → HasMark (false ∷ ms) k ⊎ Contains y (Some k)) c.deref_mut.ensures.value anew in
    subst (λ (ms : List Bool). AreRows s.slab s.places.items ms (with_items s.links c.visit_row.new.links).items)
    (sym marks) (subst (λ (ls : List ℕ). AreRows s.slab s.places.items c.visit_row.new.marks ls) (sym links)
    (visited-are s.slab s.places.items c.args.self.now s.marks.items c.visit_row.new.marks s.links.items c.visit_row.new.links y c.self.view_is c.self.invariant em el fresh held))

pub returns-clause-kept : goal.returns-clause-kept
returns-clause-kept c =
    let s = c.self.inside in
    let base = map (seen_at s.slab) s.places.items in
    map-under bare (λ r m l. refl) base _ _ ∙ (sym (map-under bare (λ r m l. refl) base s.marks.items s.links.items) ∙ ap (map bare) c.self.view_is)

pub returns-clause-raised : goal.returns-clause-raised
returns-clause-raised c =
    let s = c.self.inside in
    let base = map (seen_at s.slab) s.places.items in
    let len : length base ≡ length s.places.items = length-map s.places.items (seen_at s.slab) in
    let em : length c.visit_row.new.marks ≡ length s.marks.items = c.visit_row.ensures.len.0 ∙ ap length c.deref_mut.ensures.value in
    let marks = with_items_is s.marks c.visit_row.new.marks (em ∙ sym s.marks.ok.0) in
    marks-rows (Raises (λ z. z ≡ c.args.y)) base c.args.self.now s.marks.items c.visit_row.new.marks _ s.links.items _ c.self.view_is marks
    (c.self.invariant.marks_len ∙ sym len) (em ∙ (c.self.invariant.marks_len ∙ sym len))
    (subst (λ (ms : List Bool). Raises (λ z. z ≡ c.args.y) (false ∷ ms) (false ∷ c.visit_row.new.marks)) c.deref_mut.ensures.value c.visit_row.ensures.raised)

pub returns-clause-greyed : goal.returns-clause-greyed
returns-clause-greyed c =
    let s = c.self.inside in
    let base = map (seen_at s.slab) s.places.items in
    let len : length base ≡ length s.places.items = length-map s.places.items (seen_at s.slab) in
    let em : length c.visit_row.new.marks ≡ length s.marks.items = c.visit_row.ensures.len.0 ∙ ap length c.deref_mut.ensures.value in
    let el : length c.visit_row.new.links ≡ length s.links.items = c.visit_row.ensures.len.1 ∙ ap length c.deref_mut-2.ensures.value in
    let marks = with_items_is s.marks c.visit_row.new.marks (em ∙ sym s.marks.ok.0) in
    let links = with_items_is s.links c.visit_row.new.links (el ∙ sym s.links.ok.0) in
    let by_lists = subst (λ (ms : List Bool). Greyed (λ z. z ≡ c.args.y) (false ∷ ms) (0 ∷ c.deref_mut-2.result.now) c.args.grey.now
    (false ∷ c.visit_row.new.marks) (0 ∷ c.visit_row.new.links) c.visit_row.new.grey) c.deref_mut.ensures.value c.visit_row.ensures.greyed in
    let by_items = subst (λ (ls : List ℕ). Greyed (λ z. z ≡ c.args.y) (false ∷ s.marks.items) (0 ∷ ls) c.args.grey.now (false ∷ c.visit_row.new.marks) (0 ∷ c.visit_row.new.links) c.visit_row.new.grey)
    c.deref_mut-2.ensures.value by_lists in
    greyed-rows (λ z. z ≡ c.args.y) base c.args.self.now s.marks.items c.visit_row.new.marks _ s.links.items c.visit_row.new.links _ c.args.grey.now c.visit_row.new.grey c.self.view_is marks links
    (c.self.invariant.marks_len ∙ sym len) (c.self.invariant.links_len ∙ sym len) (em ∙ (c.self.invariant.marks_len ∙ sym len)) (el ∙ (c.self.invariant.links_len ∙ sym len)) by_items
