-- The handle is held, and a release leaves the handles as they were issued.
use Rattle.std.proofs.Common.{None, refl}
use Rattle.joint_machine.specs.declared.names.Thread.TheVariants.{M}
use Rattle.joint_machine.specs.declared.events.Op.TheVariants as op
use Rattle.joint_machine.specs.Sides.{peer_rules}
use Rattle.peer_heap.specs.Makings.{gone_since, step_makings}
use Rattle.peer_heap.specs.Sides.{seen}
use Rattle.side_tests.proofs.Counting.{counted-in-turn}
use Rattle.side_tests.proofs.Holding.{same-held, stays-held}
use Rattle.side_tests.proofs.Moves.{release-still, still-in-turn}
use Rattle.side_tests.proofs.PeerSteps.{counted-may-step}
use Rattle.side_tests.proofs.loose.Driven.releases.Goals as goal

pub step-requires-clause-allowed : goal.step-requires-clause-allowed
step-requires-clause-allowed c = let t = c.if-not-is_tabled.ensures refl in record { is_held = c.self.invariant.1; row = t.0; tabled = t.1 }

pub step-requires-clause-may : goal.step-requires-clause-may
step-requires-clause-may c = counted-may-step (seen c.self.inside.side) c.self.inside.draw (M 1) (op.Release record { 0 = 1 }) tt c.self.invariant.0

pub invariant_of-self : goal.invariant_of-self
invariant_of-self c = same-held c.self.inside.side c.step.new.self c.self.inside.draw c.step.new.draw c.in_err-reply.ensures.err c.self.invariant

pub invariant_of-self-2 : goal.invariant_of-self-2
invariant_of-self-2 c =
    let i = c.self.inside in
    let adds = c.in_ok-reply.ensures.adds in
    let gone = gone_since i.side.state c.step.new.self.state in
    let ms = step_makings (M 1) 1 (op.Release record { 0 = 1 }) None c.in_ok-reply.reply gone in (
      counted-in-turn peer_rules ms (seen i.side) (seen c.step.new.self) i.draw c.step.new.draw adds c.self.invariant.0,
      stays-held i.side.state c.step.new.self.state 1 (still-in-turn i.draw c.step.new.draw (seen i.side)
          (seen c.step.new.self) ms adds (release-still (M 1) 1 (record { 0 = 1 }) None c.in_ok-reply.reply gone)) c.self.invariant.1,
    )
