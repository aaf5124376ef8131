-- A row that stands has its key in the index, or no fields.
use Rattle.std.proofs.Common.{◌∙◌, sym, arith}
use Rattle.row_heap.proofs.Marked.{fields-under, index-under, key-under, leaf-under, not-gone}
use Rattle.row_heap.proofs.places.Rows.fields.Goals as goal

pub index-requires : goal.index-requires
index-requires c =
    let s = c.self.inside in
    omega (arith, index-under s.slab s.places.items c.args.self.now s.marks.items s.links.items c.args.x c.self.view_is c.requires, s.places.ok)

pub index-requires-in-At : goal.index-requires-in-At
index-requires-in-At c =
    let s = c.self.inside in
    key-under s.slab s.places.items c.args.self.now s.marks.items s.links.items c.args.x c.index.result.now c.in-At.key c.self.view_is c.self.invariant.index c.requires c.in-At.is c.index.ensures

pub unreachable-requires : goal.unreachable-requires
unreachable-requires c =
    let s = c.self.inside in
    not-gone s.slab s.places.items c.args.self.now s.marks.items s.links.items c.args.x c.index.result.now c.in-Gone.field-0 c.self.view_is c.requires c.in-Gone.is c.index.ensures

pub returns-in-At : goal.returns-in-At
returns-in-At c =
    let s = c.self.inside in
    c.as_slice.ensures ∙ sym (fields-under s.slab s.places.items c.args.self.now s.marks.items s.links.items c.args.x c.index.result.now
    c.in-At.key c.index-in-At.result.now c.self.view_is c.requires c.in-At.is c.index.ensures c.index-in-At.ensures)

pub returns-in-Leaf : goal.returns-in-Leaf
returns-in-Leaf c =
    let s = c.self.inside in
    sym (leaf-under s.slab s.places.items c.args.self.now s.marks.items s.links.items c.args.x c.index.result.now c.self.view_is c.requires c.in-Leaf.is c.index.ensures)
