-- Each turn brings back one candidate more, or none.
use Rattle.std.proofs.Common.{◌∙◌, ◌<◌, length, get_or, sym, ap, subst, arith, rules}
use Rattle.std.proofs.lemmas.Option.{slice_get-get_or}
use Rattle.joint_machine.specs.Heaps.{IsLive}
use Rattle.joint_machine.proofs.Members.{Contains-at}
use Rattle.row_heap.specs.Rows.{HeapRows}
use Rattle.managed_heap.proofs.BringingBack.{bring-none, bring-next, bring-all, edges-kept, edges-same}
use Rattle.managed_heap.proofs.resolving.bring_back_kept.Goals as goal

pub bring_back_if-requires-clause-live : goal.bring_back_if-requires-clause-live
bring_back_if-requires-clause-live c =
    let cs = c.args.candidates.now in
    let i = c.loop-i.i in
    let here : i < length cs = omega (arith, c.requires.answers, c.loop-i-test.true, c.len-i-end.ensures) in
    subst (λ (h : HeapRows). IsLive h.heap (get_or cs i 0)) (sym c.loop-i.invariant.rest) (c.requires.live (get_or cs i 0) (Contains-at cs i (get_or cs i 0) (slice_get-get_or cs i 0 here)))

pub bring_back_if-requires-clause-shut : goal.bring_back_if-requires-clause-shut
bring_back_if-requires-clause-shut c = λ x y e m. c.loop-i.invariant.shut x y (edges-kept c.args.heap.now c.loop-i.heap x y c.loop-i.invariant.rest e) m

pub loop-i-init : goal.loop-i-init
loop-i-init c = record { marks = bring-none c.args.heap.now c.args.candidates.now c.args.alive.now.values; shut = c.requires.shut; rest = search rules }

pub loop-i-preserved : goal.loop-i-preserved
loop-i-preserved c =
    let cs = c.args.candidates.now in
    let i = c.loop-i.i in
    let here : i < length cs = omega (arith, c.requires.answers, c.loop-i-test.true, c.len-i-end.ensures) in
    record {
      marks = bring-next c.args.heap.now c.loop-i.heap c.bring_back_if.new.heap cs c.args.alive.now.values i (get_or cs i 0) c.answer_at.result c.loop-i.invariant.rest
          (slice_get-get_or cs i 0 here) c.answer_at.ensures c.loop-i.invariant.marks (rw c.is_some-kept.ensures at c.bring_back_if.ensures.marks);
      shut = λ x y e m. c.bring_back_if.ensures.shut x y (edges-same c.args.heap.now c.loop-i.heap x y c.loop-i.invariant.rest e) m;
      rest = c.bring_back_if.ensures.rest ∙ ap (λ (h : HeapRows). record h { marks = c.bring_back_if.new.heap.marks; links = c.bring_back_if.new.heap.links }) c.loop-i.invariant.rest;
    }

pub returns-clause-marks : goal.returns-clause-marks
returns-clause-marks c = bring-all c.args.heap.now c.loop-i.heap c.args.candidates.now c.args.alive.now.values c.loop-i.i
    (omega (arith, c.loop-i-test.false, c.len-i-end.ensures)) c.loop-i.invariant.marks
