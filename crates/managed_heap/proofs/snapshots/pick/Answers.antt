-- Each turn asks one row more.
use Rattle.std.proofs.Common.{◌∙◌, sym, map, ap, arith, length, length-append}
use Rattle.joint_machine.specs.declared.names.MNum.{MNum}
use Rattle.managed_heap.specs.declared.rows.Header.{Header}
use Rattle.managed_heap.specs.Resolving.{has_handle}
use Rattle.managed_heap.proofs.Gathering.{filter-push, filter-skip}
use Rattle.managed_heap.proofs.snapshots.pick.Goals as goal
use Rattle.managed_heap.proofs.snapshots.pick.Goals.{then-holds, else-holds}

pub loop-m-preserved : goal.loop-m-preserved
loop-m-preserved c =
    let d : MNum = record { 0 = 0 } in
    let test = has_handle (map (λ (i : Header). i.handle) c.args.headers.now) in
    elim c.if-holds.branch [
      | then-holds w ↦ record {
        items = rw w.picked-is (filter-push test c.args.rows.now c.loop-m.picked.items _ c.loop-m.m-index d c.loop-m-test.true c.loop-m.invariant.items
            (sym c.holds.ensures ∙ w.if-holds.true) w.push_reserved.ensures.items);
        capacity = rw w.picked-is (w.push_reserved.ensures.capacity ∙ c.loop-m.invariant.capacity);
        few = (let many = ap length w.push_reserved.ensures.items ∙ length-append c.loop-m.picked.items _ in rw w.picked-is (omega (arith, many, c.loop-m.invariant.few)));
      }
      | else-holds w ↦ record {
        items = rw w.picked-is (filter-skip test c.args.rows.now c.loop-m.picked.items c.loop-m.m-index d c.loop-m-test.true c.loop-m.invariant.items (sym c.holds.ensures ∙ w.if-holds.false));
        capacity = rw w.picked-is c.loop-m.invariant.capacity;
        few = rw w.picked-is (omega (arith, c.loop-m.invariant.few));
      }
    ]
