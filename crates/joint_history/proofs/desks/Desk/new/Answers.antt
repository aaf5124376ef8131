use Rattle.joint_history.proofs.Desking.{each_of}
use Rattle.joint_history.proofs.desks.Desk.new.Goals as goal

pub invariant_of-result : goal.invariant_of-result
invariant_of-result g c = (
  record {
    managed_few = c.requires.counts.0;
    peers_few = c.requires.counts.1;
    places = c.in_ok-callers.ensures.callers.places;
    each = each_of c.in_ok-callers.callers.items c.in_ok-callers.ensures.callers;
  },
  c.requires.run.0,
  c.requires.run.1,
)
