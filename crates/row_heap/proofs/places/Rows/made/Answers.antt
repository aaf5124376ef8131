-- There is a place for each row.
use Rattle.std.proofs.Common.{arith}
use Rattle.row_heap.proofs.Marked.{len-under}
use Rattle.row_heap.proofs.places.Rows.made.Goals as goal

pub returns : goal.returns
returns c =
    let s = c.self.inside in
    omega (arith, len-under s.slab s.places.items c.args.self.now s.marks.items s.links.items c.self.view_is, c.len.ensures, s.places.ok)
