-- One more pin is done in each turn: what it holds is marked, or it holds nothing.
use Rattle.std.proofs.Common.{◌≡◌, ◌∙◌, ◌≤◌, ◌<◌, length, get_or, Some, None, ap, sym, subst, arith}
use Rattle.std.proofs.lemmas.Option.{slice_get-get_or}
use Rattle.joint_machine.specs.Heaps.{Heap, IsLive}
use Rattle.row_heap.specs.Rows.{HeapRows}
use Rattle.row_heap.proofs.Edges.{rest-kept}
use Rattle.managed_heap.proofs.GivenPins.{greyed-all, greyed-none, greyed-some, pin-there}
use Rattle.managed_heap.proofs.snapshots.visit_pins.Goals as goal
use Rattle.managed_heap.proofs.snapshots.visit_pins.Goals.{in-Some, in_default}

pub visit-requires-clause-some : goal.visit-requires-clause-some
visit-requires-clause-some c =
    let within : c.loop-t.t < length c.args.pins.now.at = omega (arith, c.told-pins, c.loop-t-test.true) in
    let held : get_or c.args.pins.now.at c.loop-t.t None ≡ Some c.in-Some.m = c.in-Some.is in
    (c.requires.live c.in-Some.m.0 (pin-there c.args.pins.now.at c.loop-t.t c.in-Some.m (slice_get-get_or c.args.pins.now.at c.loop-t.t None within ∙ ap Some held))).made.0

pub visit-requires-clause-row : goal.visit-requires-clause-row
visit-requires-clause-row c =
    let within : c.loop-t.t < length c.args.pins.now.at = omega (arith, c.told-pins, c.loop-t-test.true) in
    let held : get_or c.args.pins.now.at c.loop-t.t None ≡ Some c.in-Some.m = c.in-Some.is in
    subst (λ (h : Heap). IsLive h c.in-Some.m.0) (sym (ap (λ (v : HeapRows). v.heap) c.loop-t.invariant.kept))
    (c.requires.live c.in-Some.m.0 (pin-there c.args.pins.now.at c.loop-t.t c.in-Some.m (slice_get-get_or c.args.pins.now.at c.loop-t.t None within ∙ ap Some held)))

pub loop-t-preserved : goal.loop-t-preserved
loop-t-preserved c =
    let xs = c.args.pins.now.at in
    let within : c.loop-t.t < length xs = omega (arith, c.told-pins, c.loop-t-test.true) in
    elim c.match-pins-t.branch [
      | in-Some w ↦ (
          let held : get_or xs c.loop-t.t None ≡ Some w.in-Some.m = w.in-Some.is in
          record {
            kept = rw w.heap-is (w.visit.ensures.kept ∙ c.loop-t.invariant.kept);
            greyed = rw (w.heap-is, w.grey-is) (greyed-some xs c.loop-t.t w.in-Some.m _ _ _ _ _ _ _ _ _
                (slice_get-get_or xs c.loop-t.t None within ∙ ap Some held) c.loop-t.invariant.greyed w.visit.ensures.greyed);
          })
      | in_default w ↦ (
          let held : get_or xs c.loop-t.t None ≡ None = w.in_default.is in
          record {
            kept = rw w.heap-is c.loop-t.invariant.kept;
            greyed = rw (w.heap-is, w.grey-is) (greyed-none xs c.loop-t.t _ _ _ _ _ _ (slice_get-get_or xs c.loop-t.t None within ∙ ap Some held) c.loop-t.invariant.greyed);
          })
    ]

pub returns-clause-greyed : goal.returns-clause-greyed
returns-clause-greyed c =
    let xs = c.args.pins.now.at in
    let all : length xs ≤ c.loop-t.t = omega (arith, c.told-pins, c.loop-t-test.false) in
    greyed-all xs c.loop-t.t _ _ _ _ _ _ all c.loop-t.invariant.greyed

pub returns-clause-rest : goal.returns-clause-rest
returns-clause-rest c = rest-kept c.args.heap.now c.loop-t.heap c.loop-t.invariant.kept
