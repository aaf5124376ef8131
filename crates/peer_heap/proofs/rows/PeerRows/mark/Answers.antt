-- Only marks and links change, so the parts fit as before; and what the strong rows name is what strong handles name.
use Rattle.std.proofs.Common.{map, ap, refl}
use Rattle.row_heap.specs.Rows.{HeapRows}
use Rattle.joint_machine.specs.PeerReplay.{strong_peers}
use Rattle.peer_heap.specs.Marking.{strong_in}
use Rattle.global_handles.specs.Rows.{Table}
use Rattle.peer_heap.specs.Rows.{ArePeerRows, issued_as, rows_with, table_to}
use Rattle.peer_heap.proofs.Fitting.{ArePeerRows-marked}
use Rattle.peer_heap.proofs.Roots.{named-roots}
use Rattle.peer_heap.proofs.Whole.{strong-listed_too, strong-named}
use Rattle.peer_heap.proofs.rows.PeerRows.mark.Goals as goal

pub mark_roots-requires-clause-settled : goal.mark_roots-requires-clause-settled
mark_roots-requires-clause-settled c = rw c.settle.ensures refl

pub mark_roots-requires-clause-live : goal.mark_roots-requires-clause-live
mark_roots-requires-clause-live c =
    let i = c.self.inside in
    let kept = c.self.invariant in
    let live = rw (← c.self.view_is) at c.requires.strong_ones in
    rw c.settle.ensures (λ p n. live p (strong-listed_too i.table.rows i.issued i.table.last p kept.rising kept.places kept.rows_issued n))

pub mark_roots-requires-clause-ends : goal.mark_roots-requires-clause-ends
mark_roots-requires-clause-ends c = rw (← c.self.view_is) at c.requires.ends

pub invariant_of-self : goal.invariant_of-self
invariant_of-self c =
    let i = c.self.inside in
    let kept = c.self.invariant in
    let settled : Table = record i.table { holes = 0 } in
    let fits : ArePeerRows i.heap i.sorts.items i.issued settled = record { rising = kept.rising; places = kept.places; rows_issued = kept.rows_issued; sorted = kept.sorted; short = kept.short } in
    rw c.settle.ensures (ArePeerRows-marked i.heap c.mark_roots.new.heap i.sorts.items i.issued settled (ap (λ (v : HeapRows). v.heap.fields) c.mark_roots.ensures.rest) fits)

pub returns-clause-grey : goal.returns-clause-grey
returns-clause-grey c =
    let i = c.self.inside in
    let t = i.table in
    let kept = c.self.invariant in
    let grey = rw c.settle.ensures at c.mark_roots.ensures.grey in
    rw (← c.self.view_is) (named-roots i.heap.heap (strong_in t.rows)
    (strong_peers (map issued_as i.issued) (table_to t.rows t.last)) c.mark_roots.new.heap.marks c.mark_roots.new.heap.links c.mark_roots.result
    (λ x n. strong-listed_too t.rows i.issued t.last x kept.rising kept.places kept.rows_issued n) (λ x n. strong-named t.rows i.issued t.last x kept.rows_issued n) grey)

pub returns-clause-rest : goal.returns-clause-rest
returns-clause-rest c = rw (c.settle.ensures, ← c.self.view_is)
    (ap (λ (w : HeapRows). rows_with w c.self.inside.sorts.items c.self.inside.names c.self.inside.issued c.self.inside.table) c.mark_roots.ensures.rest)
