-- A contraction leaves the cycle as it is.
use Rattle.std.proofs.Common.{subst, sym}
use Rattle.managed_heap.specs.Calls.{MayContractWith}
use Rattle.managed_heap.specs.Sides.{as_side}
use Rattle.side_tests.proofs.Snapshots.{contracted-on}
use Rattle.side_tests.proofs.managed.Driven.contracts.Goals as goal

pub invariant_of-self : goal.invariant_of-self
invariant_of-self c =
    let may = subst (λ z. MayContractWith z 0 0) (sym c.self.view_is) c.requires in
    contracted-on c.self.inside.gate.count c.contracted.new.draw c.self.inside.waiting c.self.inside.answered
    (as_side c.self.inside.side) (as_side c.contracted.new.self) 3 may c.contracted.ensures.contracts c.self.invariant
