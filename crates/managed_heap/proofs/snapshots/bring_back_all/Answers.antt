-- Each turn brings back one row more.
use Rattle.std.proofs.Common.{◌≡◌, ◌∙◌, take, get_or, sym, ap, subst, arith, rules}
use Rattle.std.proofs.lemmas.List.{take_all}
use Rattle.std.proofs.lemmas.Option.{slice_get-get_or}
use Rattle.joint_machine.specs.Heaps.{IsLive}
use Rattle.joint_machine.proofs.Members.{Contains-at}
use Rattle.row_heap.specs.Rows.{HeapRows}
use Rattle.managed_heap.proofs.BringingBack.{edges-kept, edges-same}
use Rattle.managed_heap.proofs.Gathering.{back-none, back-next}
use Rattle.managed_heap.proofs.snapshots.bring_back_all.Goals as goal

pub bring_back-requires-clause-live : goal.bring_back-requires-clause-live
bring_back-requires-clause-live c =
    let ms = c.args.rows.now in
    let i = c.loop-m.m-index in
    subst (λ (h : HeapRows). IsLive h.heap (get_or ms i 0)) (sym c.loop-m.invariant.rest)
    (c.requires.live (get_or ms i 0) (Contains-at ms i (get_or ms i 0) (slice_get-get_or ms i 0 c.loop-m-test.true)))

pub bring_back-requires-clause-shut : goal.bring_back-requires-clause-shut
bring_back-requires-clause-shut c = λ x y e m. c.loop-m.invariant.shut x y (edges-kept c.args.heap.now c.loop-m.heap x y c.loop-m.invariant.rest e) m

pub loop-m-init : goal.loop-m-init
loop-m-init c = record { marks = back-none c.args.heap.now; shut = c.requires.shut; rest = search rules }

pub loop-m-preserved : goal.loop-m-preserved
loop-m-preserved c = record {
  marks = back-next c.args.heap.now c.loop-m.heap c.bring_back.new.self c.args.rows.now c.loop-m.m-index
      0 c.loop-m-test.true c.loop-m.invariant.rest c.loop-m.invariant.marks c.bring_back.ensures.marks;
  shut = λ x y e m. c.bring_back.ensures.shut x y (edges-same c.args.heap.now c.loop-m.heap x y c.loop-m.invariant.rest e) m;
  rest = c.bring_back.ensures.rest ∙ ap (λ (h : HeapRows). record h { marks = c.bring_back.new.self.marks; links = c.bring_back.new.self.links }) c.loop-m.invariant.rest;
}

pub returns-clause-marks : goal.returns-clause-marks
returns-clause-marks c =
    let all : take c.loop-m.m-index c.args.rows.now ≡ c.args.rows.now = take_all _ c.args.rows.now (omega (arith, c.loop-m-test.false)) in
    rw all at c.loop-m.invariant.marks
