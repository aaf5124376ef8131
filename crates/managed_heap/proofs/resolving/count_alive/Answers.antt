-- Each turn reads one answer more.
use Rattle.std.proofs.Common.{arith, ◌∙◌, ap, sym, None, ◌<◌, length}
use Rattle.std.specs.Prelude.{is_some}
use Rattle.std.proofs.lemmas.List.Sums.{count_by_more_yes, count_by_more_no}
use Rattle.std.proofs.lemmas.Option.{get_or_from_slice_get}
use Rattle.managed_heap.proofs.resolving.count_alive.Goals as goal
use Rattle.managed_heap.proofs.resolving.count_alive.Goals.{then-is_some, else-is_some}

pub loop-i-preserved : goal.loop-i-preserved
loop-i-preserved c =
    let said = c.args.alive.now.values in
    let i = c.loop-i.i in
    let within : i < length said = omega (arith, c.loop-i-test.true, c.len-i-end.ensures) in
    elim c.if-is_some.branch [
      | then-is_some w ↦ record {
        count = rw (
          w.count-is,
          count_by_more_yes is_some said i None within
              (ap is_some (get_or_from_slice_get said i c.answer_at.result None c.answer_at.ensures) ∙ (sym c.is_some.ensures ∙ w.if-is_some.true)),
        ) (omega (arith, c.loop-i.invariant.count));
        within = rw w.count-is (omega (arith, c.loop-i.invariant.within));
      }
      | else-is_some w ↦ record {
        count = rw (
          w.count-is,
          count_by_more_no is_some said i None within
              (ap is_some (get_or_from_slice_get said i c.answer_at.result None c.answer_at.ensures) ∙ (sym c.is_some.ensures ∙ w.if-is_some.false)),
        ) c.loop-i.invariant.count;
        within = rw w.count-is (omega (arith, c.loop-i.invariant.within));
      }
    ]
