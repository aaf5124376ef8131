-- What the fields of a row that stands hold is marked by the lists, and stands.
use Rattle.std.proofs.Common.{◌≡◌, ℕ, ◌∙◌, ◌∷◌, ◌⊎◌, Bool, false, true, List, length, map, Option, Some, refl, sym, ap, subst, arith}
use Rattle.std.specs.Prelude.{Contains}
use Rattle.std.specs.Vec.{with_items}
use Rattle.std.proofs.lemmas.List.{length-map, with_items_is}
use Rattle.reachability.specs.Marks.{HasMark}
use Rattle.row_marking.specs.Traces.{Greyed}
use Rattle.row_heap.specs.Places.{AreRows, bare, row_at, seen_at}
use Rattle.joint_machine.proofs.Members.{Contains-nil}
use Rattle.row_marking.proofs.Greys.{Greyed-none}
use Rattle.row_heap.proofs.Indexed.{stands-within}
use Rattle.row_heap.proofs.Marked.{fields-under, greyed-rows, index-under, key-under, leaf-under, len-under, map-under, marks-rows, not-gone, visited-are}
use Rattle.row_heap.proofs.places.Rows.mark_fields.Goals as goal

pub index-requires : goal.index-requires
index-requires c =
    let s = c.self.inside in
    omega (arith, index-under s.slab s.places.items c.args.self.now s.marks.items s.links.items c.args.x c.self.view_is c.requires.stands, s.places.ok)

pub index-requires-in-At : goal.index-requires-in-At
index-requires-in-At c =
    let s = c.self.inside in
    key-under s.slab s.places.items c.args.self.now s.marks.items s.links.items c.args.x c.index.result.now
    c.in-At.key c.self.view_is c.self.invariant.index c.requires.stands c.in-At.is c.index.ensures

pub unreachable-requires : goal.unreachable-requires
unreachable-requires c =
    let s = c.self.inside in
    not-gone s.slab s.places.items c.args.self.now s.marks.items s.links.items c.args.x c.index.result.now c.in-Gone.field-0 c.self.view_is c.requires.stands c.in-Gone.is c.index.ensures

pub visit-requires-clause-held : goal.visit-requires-clause-held
visit-requires-clause-held c = λ y h.
    let s = c.self.inside in
    let same = fields-under s.slab s.places.items c.args.self.now s.marks.items s.links.items c.args.x c.index.result.now
    c.in-At.key c.index-in-At.result.now c.self.view_is c.requires.stands c.in-At.is c.index.ensures c.index-in-At.ensures in
    let held : (y : ℕ) → Contains c.index-in-At.result.now.fields (Some y)
    → (row_at c.args.self.now y).stands ≡ true = λ y h. c.requires.held y (subst (λ (l : List (Option ℕ)). Contains l (Some y)) (sym same) h) in
    let w = stands-within c.args.self.now y (held y h) in
    (w.0, omega (arith, w.1, len-under s.slab s.places.items c.args.self.now s.marks.items s.links.items c.self.view_is, c.self.invariant.marks_len, ap length c.deref_mut.ensures.value))

pub invariant_of-self : goal.invariant_of-self
invariant_of-self c =
    let s = c.self.inside in
    let same = fields-under s.slab s.places.items c.args.self.now s.marks.items s.links.items c.args.x c.index.result.now
    c.in-At.key c.index-in-At.result.now c.self.view_is c.requires.stands c.in-At.is c.index.ensures c.index-in-At.ensures in
    let held : (y : ℕ) → Contains c.index-in-At.result.now.fields (Some y)
    → (row_at c.args.self.now y).stands ≡ true = λ y h. c.requires.held y (subst (λ (l : List (Option ℕ)). Contains l (Some y)) (sym same) h) in
    let em : length c.visit.new.marks ≡ length s.marks.items = c.visit.ensures.len.0 ∙ ap length c.deref_mut.ensures.value in
    let el : length c.visit.new.links ≡ length s.links.items = c.visit.ensures.len.1 ∙ ap length c.deref_mut-in-At.ensures.value in
    let marks = with_items_is s.marks c.visit.new.marks (em ∙ sym s.marks.ok.0) in
    let links = with_items_is s.links c.visit.new.links (el ∙ sym s.links.ok.0) in
    let fresh = subst (λ (ms : List Bool). (k : ℕ) → HasMark (false ∷ c.visit.new.marks) k → HasMark (false ∷ ms) k ⊎ Contains c.index-in-At.result.now.fields (Some k))
    c.deref_mut.ensures.value c.visit.ensures.fresh in
    subst (λ (ms : List Bool). AreRows s.slab s.places.items ms (with_items s.links c.visit.new.links).items)
    (sym marks) (subst (λ (ls : List ℕ). AreRows s.slab s.places.items c.visit.new.marks ls) (sym links)
    (visited-are s.slab s.places.items c.args.self.now s.marks.items c.visit.new.marks s.links.items
    c.visit.new.links c.index-in-At.result.now.fields c.self.view_is c.self.invariant em el fresh held))

pub returns-in-At-clause-kept : goal.returns-in-At-clause-kept
returns-in-At-clause-kept c =
    let s = c.self.inside in
    let base = map (seen_at s.slab) s.places.items in
    map-under bare (λ r m l. refl) base _ _ ∙ (sym (map-under bare (λ r m l. refl) base s.marks.items s.links.items) ∙ ap (map bare) c.self.view_is)

pub returns-in-At-clause-greyed : goal.returns-in-At-clause-greyed
returns-in-At-clause-greyed c =
    let s = c.self.inside in
    let base = map (seen_at s.slab) s.places.items in
    let len : length base ≡ length s.places.items = length-map s.places.items (seen_at s.slab) in
    let same = fields-under s.slab s.places.items c.args.self.now s.marks.items s.links.items c.args.x c.index.result.now
    c.in-At.key c.index-in-At.result.now c.self.view_is c.requires.stands c.in-At.is c.index.ensures c.index-in-At.ensures in
    let held : (y : ℕ) → Contains c.index-in-At.result.now.fields (Some y)
    → (row_at c.args.self.now y).stands ≡ true = λ y h. c.requires.held y (subst (λ (l : List (Option ℕ)). Contains l (Some y)) (sym same) h) in
    let em : length c.visit.new.marks ≡ length s.marks.items = c.visit.ensures.len.0 ∙ ap length c.deref_mut.ensures.value in
    let el : length c.visit.new.links ≡ length s.links.items = c.visit.ensures.len.1 ∙ ap length c.deref_mut-in-At.ensures.value in
    let marks = with_items_is s.marks c.visit.new.marks (em ∙ sym s.marks.ok.0) in
    let links = with_items_is s.links c.visit.new.links (el ∙ sym s.links.ok.0) in
    let by_lists = subst (λ (ms : List Bool). Greyed (λ y. Contains c.index-in-At.result.now.fields (Some y)) (false ∷ ms) (0 ∷ c.deref_mut-in-At.result.now) c.args.grey.now
    (false ∷ c.visit.new.marks) (0 ∷ c.visit.new.links) c.visit.new.grey) c.deref_mut.ensures.value c.visit.ensures.greyed in
    let by_items = subst (λ (ls : List ℕ). Greyed (λ y. Contains c.index-in-At.result.now.fields (Some y)) (false ∷ s.marks.items)
    (0 ∷ ls) c.args.grey.now (false ∷ c.visit.new.marks) (0 ∷ c.visit.new.links) c.visit.new.grey) c.deref_mut-in-At.ensures.value by_lists in
    let row = subst (λ (fs : List (Option ℕ)). Greyed (λ y. Contains fs (Some y)) (false ∷ s.marks.items)
    (0 ∷ s.links.items) c.args.grey.now (false ∷ c.visit.new.marks) (0 ∷ c.visit.new.links) c.visit.new.grey) (sym same) by_items in
    greyed-rows (λ y. Contains (row_at c.args.self.now c.args.x).fields (Some y)) base c.args.self.now s.marks.items
    c.visit.new.marks _ s.links.items c.visit.new.links _ c.args.grey.now c.visit.new.grey c.self.view_is marks links
    (c.self.invariant.marks_len ∙ sym len) (c.self.invariant.links_len ∙ sym len) (em ∙ (c.self.invariant.marks_len ∙ sym len)) (el ∙ (c.self.invariant.links_len ∙ sym len)) row

pub returns-in-At-clause-raised : goal.returns-in-At-clause-raised
returns-in-At-clause-raised c =
    let s = c.self.inside in
    let base = map (seen_at s.slab) s.places.items in
    let len : length base ≡ length s.places.items = length-map s.places.items (seen_at s.slab) in
    let em : length c.visit.new.marks ≡ length s.marks.items = c.visit.ensures.len.0 ∙ ap length c.deref_mut.ensures.value in
    let marks = with_items_is s.marks c.visit.new.marks (em ∙ sym s.marks.ok.0) in
    marks-rows (λ a b. (k : ℕ) → HasMark a k → HasMark b k) base c.args.self.now s.marks.items c.visit.new.marks _ s.links.items _ c.self.view_is marks
    (c.self.invariant.marks_len ∙ sym len) (em ∙ (c.self.invariant.marks_len ∙ sym len))
    (subst (λ (ms : List Bool). (k : ℕ) → HasMark (false ∷ ms) k → HasMark (false ∷ c.visit.new.marks) k) c.deref_mut.ensures.value c.visit.ensures.raised)

pub returns-in-Leaf-clause-greyed : goal.returns-in-Leaf-clause-greyed
returns-in-Leaf-clause-greyed c =
    let s = c.self.inside in
    let none = leaf-under s.slab s.places.items c.args.self.now s.marks.items s.links.items c.args.x c.index.result.now c.self.view_is c.requires.stands c.in-Leaf.is c.index.ensures in
    Greyed-none (λ y. Contains (row_at c.args.self.now c.args.x).fields (Some y)) _ _ _ (λ k h. Contains-nil (Some k) (subst (λ (fs : List (Option ℕ)). Contains fs (Some k)) none h))
