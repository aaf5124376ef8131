-- A sweep leaves the cycle and what is reserved for it as they are. The driver may end each marking.
use Rattle.std.proofs.Common.{ap}
use Rattle.joint_machine.specs.Sides.{peer_rules}
use Rattle.peer_heap.specs.Sides.{Reserve, seen}
use Rattle.side_tests.proofs.Circles.{circle-same, circle-stays}
use Rattle.side_tests.proofs.Counting.{counted-once}
use Rattle.side_tests.proofs.Moves.{still-once}
use Rattle.side_tests.proofs.PeerSteps.{driver-ends}
use Rattle.side_tests.proofs.mirrors.Driven.sweeps.Goals as goal
use Rattle.side_tests.proofs.mirrors.Driven.sweeps.Goals.{in-Ok, in-Err}

pub sweep-requires-clause-own : goal.sweep-requires-clause-own
sweep-requires-clause-own c = driver-ends c.self.inside.side.state.marking

pub invariant_of-self : goal.invariant_of-self
invariant_of-self c =
    let i = c.self.inside in
    let reserve = c.sweep.ensures.reserve in
    elim c.match-sweep.branch [
      | in-Ok w ↦ circle-stays i.side c.sweep.new.self i.draw c.sweep.new.draw i.mirrored i.standing i.kept i.weak i.back
          (still-once i.draw c.sweep.new.draw (seen i.side) (seen c.sweep.new.self) _ _ w.in-Ok.ensures.swept tt)
          (counted-once peer_rules (seen i.side) (seen c.sweep.new.self) i.draw c.sweep.new.draw _ _ w.in-Ok.ensures.swept c.self.invariant.counted)
          (ap (λ (z : Reserve). z.waiting) reserve) (ap (λ (z : Reserve). z.left) reserve) c.self.invariant
      | in-Err w ↦ (let same = w.in-Err.ensures.err in circle-same i.side c.sweep.new.self i.draw c.sweep.new.draw i.mirrored i.standing i.kept i.weak i.back (same.1, same.2) c.self.invariant)
    ]
