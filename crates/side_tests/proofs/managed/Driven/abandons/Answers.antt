-- An abandoning closes the cycle.
use Rattle.managed_heap.specs.Sides.{as_side}
use Rattle.side_tests.proofs.Snapshots.{abandoned-on}
use Rattle.side_tests.proofs.managed.Driven.abandons.Goals as goal

pub invariant_of-self : goal.invariant_of-self
invariant_of-self c = abandoned-on c.self.inside.gate.count c.abandon.new.draw c.self.inside.waiting c.self.inside.answered (as_side c.self.inside.side)
    (as_side c.abandon.new.self) 4 c.in-Some.ensures.0 (c.abandon.ensures.abandons c.in-Some.ensures.0 c.in-Some.ensures.1) c.self.invariant
