-- Room changes nothing that is counted.
use Rattle.std.proofs.Common.{subst, sym}
use Rattle.managed_heap.specs.Sides.{ManagedModel, as_side}
use Rattle.side_tests.specs.Drives.{IsDriven}
use Rattle.side_tests.proofs.managed.Driven.reserves.Goals as goal

pub invariant_of-self : goal.invariant_of-self
invariant_of-self c = subst (λ (m : ManagedModel). IsDriven (as_side m) c.self.inside.gate.count c.self.inside.waiting c.self.inside.answered) (sym c.in_err-reserve_snap.ensures.err) c.self.invariant

pub invariant_of-self-2 : goal.invariant_of-self-2
invariant_of-self-2 c = subst (λ (m : ManagedModel). IsDriven (as_side m) c.self.inside.gate.count c.self.inside.waiting c.self.inside.answered) (sym c.in_ok-reserve_snap.ensures.ok) c.self.invariant
