-- By the place.
use Rattle.std.proofs.Common.{◌∙◌, ◌-◌, sym, ap, arith}
use Rattle.row_heap.specs.declared.places.RowPlace.TheVariants.{At, Gone, Leaf}
use Rattle.row_heap.proofs.Indexed.{seen-stands}
use Rattle.row_heap.proofs.Marked.{len-under, place-under}
use Rattle.row_heap.proofs.places.Rows.stands.Goals as goal

pub index-requires : goal.index-requires
index-requires c =
    let s = c.self.inside in
    omega (arith, c.requires.0, c.requires.1, len-under s.slab s.places.items c.args.self.now s.marks.items s.links.items c.self.view_is, s.places.ok)

pub returns-in-At : goal.returns-in-At
returns-in-At c =
    let s = c.self.inside in
    let row = place-under s.slab s.places.items c.args.self.now s.marks.items s.links.items c.args.x c.index.result.now (At c.in-At.field-0) c.self.view_is c.requires c.in-At.is c.index.ensures in
    sym (ap (λ r. r.stands) row.1 ∙ seen-stands s.slab s.places.items (c.args.x - 1) c.in-At.field-0 c.self.invariant.index row.0)

pub returns-in-Leaf : goal.returns-in-Leaf
returns-in-Leaf c =
    let s = c.self.inside in
    sym (ap (λ r. r.stands) (place-under s.slab s.places.items c.args.self.now s.marks.items s.links.items c.args.x c.index.result.now Leaf c.self.view_is c.requires c.in-Leaf.is c.index.ensures).1)

pub returns-in-Gone : goal.returns-in-Gone
returns-in-Gone c =
    let s = c.self.inside in
    sym (ap (λ r. r.stands) (place-under s.slab s.places.items c.args.self.now s.marks.items s.links.items c.args.x c.index.result.now
    (Gone c.in-Gone.field-0) c.self.view_is c.requires c.in-Gone.is c.index.ensures).1)
