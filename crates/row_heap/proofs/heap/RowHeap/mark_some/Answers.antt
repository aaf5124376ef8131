-- No marked object is freed, so what the loop walks are the edges of the heap.
use Rattle.std.proofs.Common.{ℕ, ap, subst}
use Rattle.joint_machine.specs.Heaps.{Heap, IsLive}
use Rattle.reachability.specs.Marks.{HasMark}
use Rattle.row_heap.specs.Rows.{HeapRows}
use Rattle.row_heap.proofs.Edges.{blackens-edges, rest-kept}
use Rattle.row_heap.proofs.heap.RowHeap.mark_some.Goals as goal

pub scan_some-scanned-requires : goal.scan_some-scanned-requires
scan_some-scanned-requires g c = c.requires

pub returns-clause-steps : goal.returns-clause-steps
returns-clause-steps g c = λ greys w.
    let v = c.args.self.now in
    let new = c.scan_some-scanned.new.g in
    let s = c.scan_some-scanned.ensures.steps greys w in
    let heap = ap (λ (z : HeapRows). z.heap) (rest-kept v new c.scan_some-scanned.ensures.kept) in
    let live : (x : ℕ) → HasMark new.marks x → IsLive v.heap x = λ x m. subst (λ (h : Heap). IsLive h x) heap (c.recall_marked_live.ensures x m) in
    record { waits = s.waits; chained = s.chained; steps = blackens-edges v c.scan_some-scanned.result.1 v.marks new.marks greys s.waits c.recall_tidy.ensures c.recall_ends_live.ensures live s.steps }

pub returns-clause-rest : goal.returns-clause-rest
returns-clause-rest g c = rest-kept c.args.self.now c.scan_some-scanned.new.g c.scan_some-scanned.ensures.kept
