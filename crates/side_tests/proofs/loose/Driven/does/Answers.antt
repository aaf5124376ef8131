-- A step leaves the handles as they were issued.
use Rattle.std.proofs.Common.{refl}
use Rattle.joint_machine.specs.Sides.{peer_rules}
use Rattle.peer_heap.specs.Sides.{seen}
use Rattle.side_tests.proofs.Counting.{counted-in-turn}
use Rattle.side_tests.proofs.Holding.{same-held, stays-held}
use Rattle.side_tests.proofs.Moves.{makings-still, still-in-turn, still-may, still-step}
use Rattle.side_tests.proofs.PeerSteps.{counted-may-step, step-taken}
use Rattle.side_tests.proofs.loose.Driven.does.Goals as goal

pub step-requires-clause-step : goal.step-requires-clause-step
step-requires-clause-step c = still-step c.args.caller c.args.op (c.if-not-is_still.ensures refl)

pub step-requires-clause-allowed : goal.step-requires-clause-allowed
step-requires-clause-allowed c = still-may c.self.inside.side.state c.args.caller c.args.op (c.if-not-is_still.ensures refl)

pub step-requires-clause-may : goal.step-requires-clause-may
step-requires-clause-may c = counted-may-step (seen c.self.inside.side) c.self.inside.draw c.args.caller c.args.op
    (step-taken c.args.caller c.args.op (still-step c.args.caller c.args.op (c.if-not-is_still.ensures refl))) c.self.invariant.0

pub invariant_of-self : goal.invariant_of-self
invariant_of-self c = same-held c.self.inside.side c.step.new.self c.self.inside.draw c.step.new.draw c.in_err-reply.ensures.err c.self.invariant

pub invariant_of-self-2 : goal.invariant_of-self-2
invariant_of-self-2 c =
    let i = c.self.inside in
    let adds = c.in_ok-reply.ensures.adds in (
      counted-in-turn peer_rules _ (seen i.side) (seen c.step.new.self) i.draw c.step.new.draw adds c.self.invariant.0,
      stays-held i.side.state c.step.new.self.state 1 (still-in-turn i.draw c.step.new.draw (seen i.side) (seen c.step.new.self) _ adds
          (makings-still c.args.caller 1 c.args.op _ _ _ (c.if-not-is_still.ensures refl))) c.self.invariant.1,
    )
