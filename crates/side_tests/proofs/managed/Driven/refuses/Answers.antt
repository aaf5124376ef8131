-- A refusal leaves the cycle as it is.
use Rattle.managed_heap.specs.Sides.{as_side}
use Rattle.side_tests.proofs.Snapshots.{refused-on}
use Rattle.side_tests.proofs.managed.Driven.refuses.Goals as goal

pub invariant_of-self-2 : goal.invariant_of-self-2
invariant_of-self-2 c = refused-on c.self.inside.gate.count c.refused.new.draw c.self.inside.waiting c.self.inside.answered
    (as_side c.self.inside.side) (as_side c.refused.new.self) 4 c.args.word _ c.args.phase c.in_ok-reply.ensures.adds c.self.invariant
