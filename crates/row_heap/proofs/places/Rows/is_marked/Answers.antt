-- The mark at the row's place.
use Rattle.std.proofs.Common.{◌∙◌, sym, arith}
use Rattle.row_heap.proofs.Marked.{len-under, mark-under}
use Rattle.row_heap.proofs.places.Rows.is_marked.Goals as goal

pub index-requires : goal.index-requires
index-requires c =
    let s = c.self.inside in
    omega (arith, c.requires.0, c.requires.1, len-under s.slab s.places.items c.args.self.now s.marks.items s.links.items c.self.view_is, c.self.invariant.marks_len, s.marks.ok)

pub returns : goal.returns
returns c =
    let s = c.self.inside in
    c.index.ensures ∙ sym (mark-under s.slab s.places.items c.args.self.now s.marks.items s.links.items
    c.args.x c.index.result.now c.self.view_is c.requires.0 c.requires.1 (c.self.invariant.marks_len))
