-- A begin or a sweep by the call that makes it.
use Rattle.peer_heap.proofs.side.PeerSide.mark_step.Goals as goal

pub returns-in-Begin-clause-adds : goal.returns-in-Begin-clause-adds
returns-in-Begin-clause-adds g c = rw c.in-Begin.is c.begin.ensures.adds

pub returns-in-Sweep-clause-adds : goal.returns-in-Sweep-clause-adds
returns-in-Sweep-clause-adds g c = rw c.in-Sweep.is c.end.ensures.adds
