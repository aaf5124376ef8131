-- Each turn asks one row more.
use Rattle.std.proofs.Common.{◌∙◌, ◌∷◌, [], ap, sym, get_or, arith, length, length-append}
use Rattle.std.proofs.lemmas.List.{map-append}
use Rattle.joint_machine.specs.declared.names.MNum.{MNum}
use Rattle.joint_machine.specs.Histories.{managed_numbers}
use Rattle.managed_heap.proofs.Gathering.{filter-push, filter-skip}
use Rattle.managed_heap.proofs.snapshots.marked_rows.Goals as goal
use Rattle.managed_heap.proofs.snapshots.marked_rows.Goals.{then-has_mark, else-has_mark}
use Rattle.reachability.specs.Marks.{marked}

pub loop-m-preserved : goal.loop-m-preserved
loop-m-preserved c =
    let d : MNum = record { 0 = 0 } in
    let test = marked c.args.heap.now.marks in
    elim c.if-has_mark.branch [
      | then-has_mark w ↦ record {
        items = rw w.found-is (filter-push test c.args.rows.now (managed_numbers c.loop-m.found.items) _ c.loop-m.m-index d c.loop-m-test.true c.loop-m.invariant.items
            (sym c.has_mark.ensures ∙ w.if-has_mark.true) (ap managed_numbers w.push_reserved.ensures.items
            ∙ map-append (λ (m : MNum). m.0) c.loop-m.found.items (get_or c.args.rows.now c.loop-m.m-index d ∷ [])));
        capacity = rw w.found-is (w.push_reserved.ensures.capacity ∙ c.loop-m.invariant.capacity);
        few = (let many = ap length w.push_reserved.ensures.items ∙ length-append c.loop-m.found.items _ in rw w.found-is (omega (arith, many, c.loop-m.invariant.few)));
      }
      | else-has_mark w ↦ record {
        items = rw w.found-is (filter-skip test c.args.rows.now (managed_numbers c.loop-m.found.items) c.loop-m.m-index d c.loop-m-test.true c.loop-m.invariant.items
            (sym c.has_mark.ensures ∙ w.if-has_mark.false));
        capacity = rw w.found-is c.loop-m.invariant.capacity;
        few = rw w.found-is (omega (arith, c.loop-m.invariant.few));
      }
    ]
