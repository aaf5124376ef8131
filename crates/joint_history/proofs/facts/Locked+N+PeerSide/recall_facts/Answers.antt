use Rattle.std.proofs.Common.{subst}
use Rattle.peer_heap.specs.Sides.{PeerModel, seen}
use Rattle.joint_history.specs.Locked.{Under}
use Rattle.joint_history.specs.SeatFacts.{HandlesLeft, NoneLeadsToFreedIn, PeerListCites, WeakIsWaitingIn}
use Rattle.joint_history.proofs.SeatsKnow.{handles_left, none_to_cleared, none_to_freed, peer_list_cites, weak_waits}
use Rattle.joint_history.proofs.facts.Locked+N+PeerSide.recall_facts.Goals as goal

pub returns-clause-cites : goal.returns-clause-cites
returns-clause-cites g c = subst (λ (u : Under PeerModel). PeerListCites u.view u.side.entries) c.self.view_is (peer_list_cites c.self.inside.seat.view (seen c.self.inside.side) c.self.invariant.2.0)

pub returns-clause-left : goal.returns-clause-left
returns-clause-left g c = subst (λ (u : Under PeerModel). HandlesLeft (seen u.side)) c.self.view_is (handles_left c.self.inside.seat.view (seen c.self.inside.side) c.self.invariant.2.0)

pub returns-clause-weak : goal.returns-clause-weak
returns-clause-weak g c = subst (λ (u : Under PeerModel). WeakIsWaitingIn u.side.state) c.self.view_is (weak_waits c.self.inside.seat.view (seen c.self.inside.side) c.self.invariant.2.0)

pub returns-clause-freed : goal.returns-clause-freed
returns-clause-freed g c = subst (λ (u : Under PeerModel). NoneLeadsToFreedIn u.side.state) c.self.view_is (none_to_freed c.self.inside.seat.view (seen c.self.inside.side) c.self.invariant.2.0)

pub returns-clause-cleared : goal.returns-clause-cleared
returns-clause-cleared g c = none_to_cleared c.args.self.now.view
