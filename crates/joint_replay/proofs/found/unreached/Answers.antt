-- Each turn asks one row more.
use Rattle.std.proofs.Common.{arith}
use Rattle.joint_replay.specs.Found.{IsUnreachedRow}
use Rattle.joint_replay.proofs.found.unreached.Goals as goal
use Rattle.joint_replay.proofs.found.unreached.Goals.{then-is_unreached+in_ok-push, else-is_unreached}
use Rattle.joint_machine.proofs.Deciding.{test-true, test-false}
use Rattle.joint_machine.proofs.Gathering.{Gathered-push, Gathered-skip, Gathered-all, made-below}

pub loop-m-preserved : goal.loop-m-preserved
loop-m-preserved c =
    let wanted = IsUnreachedRow c.args.heap.now c.args.slots.now c.args.bridges.now c.args.stays in
    elim c.if-is_unreached.branch [
      | then-is_unreached+in_ok-push w ↦ rw (w.rows-is, w.in_ok-push.ensures.items)
          (Gathered-push wanted c.loop-m.m c.loop-m.rows.items c.loop-m.invariant (test-true (wanted c.loop-m.m) _ c.is_unreached.ensures w.if-is_unreached.true))
      | else-is_unreached w ↦ rw w.rows-is (Gathered-skip wanted c.loop-m.m c.loop-m.rows.items c.loop-m.invariant (test-false (wanted c.loop-m.m) _ c.is_unreached.ensures w.if-is_unreached.false))
    ]

pub returns : goal.returns
returns c = record {
  rise = c.loop-m.invariant.rises;
  exact = λ m. Gathered-all (IsUnreachedRow c.args.heap.now c.args.slots.now c.args.bridges.now c.args.stays) c.loop-m.m c.loop-m.rows.items c.loop-m.invariant
      (λ k w. made-below c.args.heap.now k c.loop-m.m w.0 (omega (arith, c.loop-m-test.false, c.made-m-end.ensures.made))) m;
}
