-- A step draws in turn, from a plain count.
use Rattle.std.proofs.Common.{ap, refl}
use Rattle.joint_machine.specs.Sides.{peer_rules}
use Rattle.peer_heap.specs.Sides.{seen}
use Rattle.side_tests.proofs.Counting.{counted-in-turn, counted-same}
use Rattle.side_tests.proofs.PeerSteps.{counted-may-step, step-taken}
use Rattle.side_tests.proofs.peers.Driven.does.Goals as goal

pub step-requires-clause-may : goal.step-requires-clause-may
step-requires-clause-may c = counted-may-step (seen c.self.inside.side) c.self.inside.draw c.args.caller c.args.op
    (step-taken c.args.caller c.args.op (c.if-not-is_step.ensures refl).0) c.self.invariant

pub invariant_of-self : goal.invariant_of-self
invariant_of-self c = let same = c.in_err-reply.ensures.err in
    counted-same (seen c.self.inside.side) (seen c.step.new.self) c.self.inside.draw c.step.new.draw (ap seen same.0, same.1) c.self.invariant

pub invariant_of-self-2 : goal.invariant_of-self-2
invariant_of-self-2 c = counted-in-turn peer_rules _ (seen c.self.inside.side) (seen c.step.new.self) c.self.inside.draw c.step.new.draw c.in_ok-reply.ensures.adds c.self.invariant
