-- The link at the row's place; a row with a mark stands.
use Rattle.std.proofs.Common.{◌∙◌, sym, arith}
use Rattle.row_heap.proofs.Indexed.{stands-within}
use Rattle.row_heap.proofs.Marked.{len-under, link-under}
use Rattle.row_heap.proofs.places.Rows.marked_link.Goals as goal

pub index-requires : goal.index-requires
index-requires c =
    let s = c.self.inside in
    let w = stands-within c.args.self.now c.args.x (c.recall_marked_stand.ensures c.args.x c.requires) in
    omega (arith, w.0, w.1, len-under s.slab s.places.items c.args.self.now s.marks.items s.links.items c.self.view_is, c.self.invariant.links_len, s.links.ok)

pub returns-clause-link : goal.returns-clause-link
returns-clause-link c =
    let s = c.self.inside in
    let w = stands-within c.args.self.now c.args.x (c.recall_marked_stand.ensures c.args.x c.requires) in
    c.index.ensures ∙ sym (link-under s.slab s.places.items c.args.self.now s.marks.items s.links.items c.args.x c.index.result.now c.self.view_is w.0 w.1 c.self.invariant.links_len)
