-- Each turn asks one row more.
use Rattle.std.proofs.Common.{arith}
use Rattle.joint_replay.specs.Found.{IsBridgeRow}
use Rattle.joint_replay.proofs.roots.bridge_rows.Goals as goal
use Rattle.joint_replay.proofs.roots.bridge_rows.Goals.{then-is_bridge+in_ok-push, else-is_bridge}
use Rattle.joint_machine.proofs.Deciding.{test-true, test-false}
use Rattle.joint_machine.proofs.Gathering.{Gathered-push, Gathered-skip, Gathered-all, made-below}

pub loop-m-preserved : goal.loop-m-preserved
loop-m-preserved c =
    let wanted = IsBridgeRow c.args.heap.now c.args.held.now in
    elim c.if-is_bridge.branch [
      | then-is_bridge+in_ok-push w ↦ rw (w.rows-is, w.in_ok-push.ensures.items)
          (Gathered-push wanted c.loop-m.m c.loop-m.rows.items c.loop-m.invariant (test-true (wanted c.loop-m.m) _ c.is_bridge.ensures w.if-is_bridge.true))
      | else-is_bridge w ↦ rw w.rows-is (Gathered-skip wanted c.loop-m.m c.loop-m.rows.items c.loop-m.invariant (test-false (wanted c.loop-m.m) _ c.is_bridge.ensures w.if-is_bridge.false))
    ]

pub returns : goal.returns
returns c = λ m. Gathered-all (IsBridgeRow c.args.heap.now c.args.held.now) c.loop-m.m c.loop-m.rows.items c.loop-m.invariant
    (λ k w. made-below c.args.heap.now k c.loop-m.m w.0 (omega (arith, c.loop-m-test.false, c.made-m-end.ensures.made))) m
