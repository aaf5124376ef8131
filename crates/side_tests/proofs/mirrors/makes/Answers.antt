-- An event that asks nothing is answered as the replay does.
use Rattle.joint_machine.specs.Sides.{peer_rules}
use Rattle.peer_heap.specs.Sides.{seen}
use Rattle.side_tests.proofs.Counting.{counted-in-turn}
use Rattle.side_tests.proofs.Moves.{plain-may, plain-state}
use Rattle.side_tests.proofs.PeerSteps.{counted-may-step, step-taken}
use Rattle.side_tests.proofs.mirrors.makes.Goals as goal

pub step-requires-clause-allowed : goal.step-requires-clause-allowed
step-requires-clause-allowed c = plain-may c.args.side.now.state c.args.caller c.args.op c.requires.plain

pub step-requires-clause-may : goal.step-requires-clause-may
step-requires-clause-may c = counted-may-step (seen c.args.side.now) c.args.draw.now c.args.caller c.args.op (step-taken c.args.caller c.args.op c.requires.step) c.requires.counted

pub returns-clause-state : goal.returns-clause-state
returns-clause-state c = plain-state c.args.draw.now c.step.new.draw (seen c.args.side.now) (seen c.step.new.self) c.args.caller 1 c.args.op _ _ c.requires.plain c.in_ok-step.ensures.adds

pub returns-clause-counted : goal.returns-clause-counted
returns-clause-counted c = counted-in-turn peer_rules _ (seen c.args.side.now) (seen c.step.new.self) c.args.draw.now c.step.new.draw c.in_ok-step.ensures.adds c.requires.counted
