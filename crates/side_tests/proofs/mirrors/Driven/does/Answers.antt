-- A step leaves the cycle as it is.
use Rattle.peer_heap.specs.Sides.{seen, Reserve}
use Rattle.joint_machine.specs.Sides.{peer_rules}
use Rattle.std.proofs.Common.{ap, refl}
use Rattle.side_tests.proofs.Circles.{circle-same, circle-stays}
use Rattle.side_tests.proofs.Counting.{counted-in-turn}
use Rattle.side_tests.proofs.Moves.{makings-still, still-in-turn, still-may, still-step}
use Rattle.side_tests.proofs.PeerSteps.{counted-may-step, step-taken}
use Rattle.side_tests.proofs.mirrors.Driven.does.Goals as goal

pub step-requires-clause-step : goal.step-requires-clause-step
step-requires-clause-step c = still-step c.args.caller c.args.op (c.if-not-is_still.ensures refl)

pub step-requires-clause-allowed : goal.step-requires-clause-allowed
step-requires-clause-allowed c = still-may c.self.inside.side.state c.args.caller c.args.op (c.if-not-is_still.ensures refl)

pub step-requires-clause-may : goal.step-requires-clause-may
step-requires-clause-may c = counted-may-step (seen c.self.inside.side) c.self.inside.draw c.args.caller c.args.op
    (step-taken c.args.caller c.args.op (still-step c.args.caller c.args.op (c.if-not-is_still.ensures refl))) c.self.invariant.counted

pub invariant_of-self : goal.invariant_of-self
invariant_of-self c =
    let i = c.self.inside in
    circle-same i.side c.step.new.self i.draw c.step.new.draw i.mirrored i.standing i.kept i.weak i.back c.in_err-reply.ensures.err c.self.invariant

pub invariant_of-self-2 : goal.invariant_of-self-2
invariant_of-self-2 c =
    let i = c.self.inside in
    let adds = c.in_ok-reply.ensures.adds in
    let reserve = c.in_ok-reply.ensures.reserve in
    circle-stays i.side c.step.new.self i.draw c.step.new.draw i.mirrored i.standing i.kept i.weak i.back
    (still-in-turn i.draw c.step.new.draw (seen i.side) (seen c.step.new.self) _ adds (makings-still c.args.caller 1 c.args.op _ _ _ (c.if-not-is_still.ensures refl)))
    (counted-in-turn peer_rules _ (seen i.side) (seen c.step.new.self) i.draw c.step.new.draw adds c.self.invariant.counted)
    (ap (λ (z : Reserve). z.waiting) reserve) (ap (λ (z : Reserve). z.left) reserve) c.self.invariant
