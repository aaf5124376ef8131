-- The slots are visited, and then the strong handles.
use Rattle.std.proofs.Common.{◌∙◌, ap, subst, sym}
use Rattle.joint_machine.specs.Heaps.{Heap, IsLive}
use Rattle.row_heap.specs.Rows.{HeapRows}
use Rattle.peer_heap.specs.Marking.{AreRootsGrey, IsRoot, strong_in}
use Rattle.peer_heap.proofs.Roots.{begins-grey, rest-begun}
use Rattle.peer_heap.proofs.marking.mark_roots.Goals as goal

pub visit_strong-requires-clause-live : goal.visit_strong-requires-clause-live
visit_strong-requires-clause-live c = λ p n.
    let same = ap (λ (v : HeapRows). v.heap) c.visit_slots.ensures.rest ∙ ap (λ (v : HeapRows). v.heap) c.begin_marking.ensures.rest in
    subst (λ (h : Heap). IsLive h p) (sym same) (c.requires.live p n)

pub returns-clause-grey : goal.returns-clause-grey
returns-clause-grey c =
    let strong = strong_in c.args.table.now.rows in
    let h = c.begin_marking.new.self.heap in
    let grey = begins-grey h strong _ _ _ _ _ _ _ _ c.begin_marking.ensures.marks c.visit_slots.ensures.greyed c.visit_strong.ensures.greyed in
    subst (λ (g : Heap). AreRootsGrey (IsRoot g strong) c.visit_strong.new.heap.marks c.visit_strong.new.heap.links c.visit_strong.new.grey)
    (ap (λ (v : HeapRows). v.heap) c.begin_marking.ensures.rest) grey

pub returns-clause-rest : goal.returns-clause-rest
returns-clause-rest c = rest-begun c.args.heap.now c.begin_marking.new.self c.visit_slots.new.self
    c.visit_strong.new.heap c.begin_marking.ensures.rest c.visit_slots.ensures.rest c.visit_strong.ensures.rest
