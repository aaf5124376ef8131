use Rattle.std.proofs.Common.{subst}
use Rattle.managed_heap.specs.Sides.{ManagedModel, as_side}
use Rattle.joint_history.specs.Locked.{Under}
use Rattle.joint_history.specs.SeatFacts.{ManagedListCites}
use Rattle.joint_history.proofs.SeatsKnow.{managed_list_cites, resolves_freed, resolves_renewed}
use Rattle.joint_history.proofs.facts.Locked+N+ManagedSide.recall_facts.Goals as goal

pub returns-clause-cites : goal.returns-clause-cites
returns-clause-cites g c = subst (λ (u : Under ManagedModel). ManagedListCites u.view u.side.entries) c.self.view_is
    (managed_list_cites c.self.inside.seat.view (as_side c.self.inside.side) c.self.invariant.2.0)

pub returns-clause-resolved : goal.returns-clause-resolved
returns-clause-resolved g c = resolves_freed c.args.self.now.view

pub returns-clause-renewed : goal.returns-clause-renewed
returns-clause-renewed g c = resolves_renewed c.args.self.now.view
