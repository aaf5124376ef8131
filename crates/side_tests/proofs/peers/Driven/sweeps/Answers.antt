-- A sweep draws once, from a plain count. The driver may end each marking.
use Rattle.std.proofs.Common.{ap}
use Rattle.joint_machine.specs.Sides.{peer_rules}
use Rattle.peer_heap.specs.Sides.{seen}
use Rattle.side_tests.proofs.Counting.{counted-once, counted-same}
use Rattle.side_tests.proofs.PeerSteps.{driver-ends}
use Rattle.side_tests.proofs.peers.Driven.sweeps.Goals as goal
use Rattle.side_tests.proofs.peers.Driven.sweeps.Goals.{in-Ok, in-Err}

pub sweep-requires-clause-own : goal.sweep-requires-clause-own
sweep-requires-clause-own c = driver-ends c.self.inside.side.state.marking

pub invariant_of-self : goal.invariant_of-self
invariant_of-self c = elim c.match-sweep.branch [
  | in-Ok w ↦ counted-once peer_rules (seen c.self.inside.side) (seen c.sweep.new.self) c.self.inside.draw c.sweep.new.draw _ _ w.in-Ok.ensures.swept c.self.invariant
  | in-Err w ↦ (let same = w.in-Err.ensures.err in counted-same (seen c.self.inside.side) (seen c.sweep.new.self) c.self.inside.draw c.sweep.new.draw (ap seen same.1, same.2) c.self.invariant)
]
