-- The roots are what slots name and pins hold.
use Rattle.std.proofs.Common.{◌∙◌, ap, sym, subst}
use Rattle.joint_machine.specs.Heaps.{Heap, IsLive}
use Rattle.row_heap.specs.Rows.{HeapRows}
use Rattle.managed_heap.specs.Pinned.{pins_given}
use Rattle.managed_heap.proofs.BringingBack.{edges-kept}
use Rattle.managed_heap.proofs.Gathering.{roots_of, slots-greying, slots-marked}
use Rattle.managed_heap.proofs.snapshots.mark_slots.Goals as goal

pub finish_marking-requires : goal.finish_marking-requires
finish_marking-requires c = record {
  roots = roots_of c.args.heap.now.heap (pins_given c.args.pins.now.at);
  before = c.begin_marking.new.self.marks;
  greying = slots-greying c.args.heap.now c.begin_marking.new.self c.visit_slots.new.self c.visit_pins.new.heap (pins_given c.args.pins.now.at) _ _
      (ap (λ (v : HeapRows). v.heap) c.begin_marking.ensures.rest) c.begin_marking.ensures.marks c.visit_slots.ensures.greyed c.visit_pins.ensures.greyed;
}

pub returns-clause-marks : goal.returns-clause-marks
returns-clause-marks c =
    let start = c.args.heap.now in
    let same = ap (λ (v : HeapRows). v.heap) c.visit_pins.ensures.rest ∙ (ap (λ (v : HeapRows). v.heap) c.visit_slots.ensures.rest ∙ ap (λ (v : HeapRows). v.heap) c.begin_marking.ensures.rest) in
    let plain = ap (λ (v : HeapRows). v.follows) c.visit_pins.ensures.rest
    ∙ (ap (λ (v : HeapRows). v.follows) c.visit_slots.ensures.rest ∙ ap (λ (v : HeapRows). v.follows) c.begin_marking.ensures.rest) in
    slots-marked start c.visit_pins.new.heap c.begin_marking.new.self.marks c.finish_marking.new.self.marks (pins_given c.args.pins.now.at) same plain c.begin_marking.ensures.marks
    (c.finish_marking.ensures.marks (roots_of start.heap (pins_given c.args.pins.now.at)) c.begin_marking.new.self.marks
    (slots-greying start c.begin_marking.new.self c.visit_slots.new.self c.visit_pins.new.heap (pins_given c.args.pins.now.at) _ _
    (ap (λ (v : HeapRows). v.heap) c.begin_marking.ensures.rest) c.begin_marking.ensures.marks c.visit_slots.ensures.greyed c.visit_pins.ensures.greyed))

pub returns-clause-shut : goal.returns-clause-shut
returns-clause-shut c = λ x y e m. c.finish_marking.ensures.shut x y (edges-kept c.visit_pins.new.heap c.finish_marking.new.self x y c.finish_marking.ensures.rest e) m

pub visit_pins-requires : goal.visit_pins-requires
visit_pins-requires c =
    let same = ap (λ (v : HeapRows). v.heap) c.visit_slots.ensures.rest ∙ ap (λ (v : HeapRows). v.heap) c.begin_marking.ensures.rest in
    record { live = λ x k. subst (λ (h : Heap). IsLive h x) (sym same) (c.requires.live x k) }
