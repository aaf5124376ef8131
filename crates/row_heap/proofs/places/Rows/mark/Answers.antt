-- The mark and the link of the one row are written.
use Rattle.std.proofs.Common.{arith}
use Rattle.row_heap.proofs.Marked.{index-under, marked-are, marked-rows}
use Rattle.row_heap.proofs.places.Rows.mark.Goals as goal

pub index_mut-requires : goal.index_mut-requires
index_mut-requires c =
    let s = c.self.inside in
    omega (arith, index-under s.slab s.places.items c.args.self.now s.marks.items s.links.items c.args.x c.self.view_is c.requires, c.self.invariant.marks_len, s.marks.ok)

pub index_mut-requires-2 : goal.index_mut-requires-2
index_mut-requires-2 c =
    let s = c.self.inside in
    omega (arith, index-under s.slab s.places.items c.args.self.now s.marks.items s.links.items c.args.x c.self.view_is c.requires, c.self.invariant.links_len, s.links.ok)

pub invariant_of-self : goal.invariant_of-self
invariant_of-self c =
    let s = c.self.inside in
    marked-are s.slab s.places.items c.args.self.now s.marks.items s.links.items c.args.x c.args.link c.self.view_is c.self.invariant c.requires

pub returns : goal.returns
returns c =
    let s = c.self.inside in
    marked-rows s.slab s.places.items c.args.self.now s.marks.items s.links.items c.args.x c.args.link c.self.view_is c.self.invariant c.requires
