-- The row under the one key is written.
use Rattle.std.proofs.Common.{◌∙◌, List, map, set, length, refl, sym, ap, arith, Option, ℕ, true, false}
use Rattle.row_heap.specs.Places.{Seen, row_at, seen_at}
use Rattle.row_heap.proofs.Indexed.{row-of}
use Rattle.row_heap.proofs.Marked.{changed-are, changed-rows, index-under, key-under, leaf-under, not-gone, row_at-under, up-under}
use Rattle.row_heap.proofs.places.Rows.set_field.Goals as goal

pub index-requires : goal.index-requires
index-requires c =
    let s = c.self.inside in
    omega (arith, index-under s.slab s.places.items c.args.self.now s.marks.items s.links.items c.args.x c.self.view_is c.requires.stands, s.places.ok)

pub index_mut-requires : goal.index_mut-requires
index_mut-requires c =
    let s = c.self.inside in
    key-under s.slab s.places.items c.args.self.now s.marks.items s.links.items c.args.x c.index.result.now
    c.in-At.key c.self.view_is c.self.invariant.index c.requires.stands c.in-At.is c.index.ensures

pub set-requires : goal.set-requires
set-requires c =
    let s = c.self.inside in
    let base = map (seen_at s.slab) s.places.items in
    let up = up-under base c.args.self.now s.marks.items s.links.items c.args.x c.self.view_is c.requires.stands in
    let row = row-of s.slab s.places.items base c.args.x c.index.result.now c.in-At.key c.index_mut.result.now refl up c.in-At.is c.index.ensures c.index_mut.ensures.value in
    let same = sym (ap (λ (l : List Seen). (row_at l c.args.x).fields) c.self.view_is) ∙ row_at-under (λ r. r.fields) (λ r m l. refl) base s.marks.items s.links.items c.args.x in
    omega (arith, c.requires.index, ap length same, ap (λ r. length r.fields) row)

pub invariant_of-self : goal.invariant_of-self
invariant_of-self c =
    let s = c.self.inside in
    let up = up-under (map (seen_at s.slab) s.places.items) c.args.self.now s.marks.items s.links.items c.args.x c.self.view_is c.requires.stands in
    changed-are (λ (r : Seen). record r { fields = set r.fields c.args.i c.args.y }) (λ r m l. refl) (λ r. refl) s.slab s.places.items c.args.self.now
    s.marks.items s.links.items c.args.x c.index.result.now c.in-At.key _ _ c.self.view_is c.self.invariant up c.in-At.is c.index.ensures c.index_mut.ensures.value
    (ap (λ (fs : List (Option ℕ)). (let r : Seen = record { fields = fs; marked = false; link = 0; stands = true } in r)) c.set.ensures)

pub unreachable-requires : goal.unreachable-requires
unreachable-requires c =
    let s = c.self.inside in
    omega (
      arith,
      c.requires.index,
      ap length (leaf-under s.slab s.places.items c.args.self.now s.marks.items
          s.links.items c.args.x c.index.result.now c.self.view_is c.requires.stands c.in-Leaf.is c.index.ensures),
    )

pub unreachable-requires-in-Gone : goal.unreachable-requires-in-Gone
unreachable-requires-in-Gone c =
    let s = c.self.inside in
    not-gone s.slab s.places.items c.args.self.now s.marks.items s.links.items c.args.x c.index.result.now c.in-Gone.field-0 c.self.view_is c.requires.stands c.in-Gone.is c.index.ensures

pub returns : goal.returns
returns c =
    let s = c.self.inside in
    let up = up-under (map (seen_at s.slab) s.places.items) c.args.self.now s.marks.items s.links.items c.args.x c.self.view_is c.requires.stands in
    changed-rows (λ (r : Seen). record r { fields = set r.fields c.args.i c.args.y }) (λ r m l. refl) s.slab s.places.items c.args.self.now s.marks.items
    s.links.items c.args.x c.index.result.now c.in-At.key _ _ c.self.view_is c.self.invariant.index up c.in-At.is c.index.ensures c.index_mut.ensures.value
    (ap (λ (fs : List (Option ℕ)). (let r : Seen = record { fields = fs; marked = false; link = 0; stands = true } in r)) c.set.ensures)
