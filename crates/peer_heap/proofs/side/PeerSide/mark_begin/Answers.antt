-- A begin is refused where a marking is open, which the side tells.
use Rattle.peer_heap.proofs.Ends.{none-open, open-fault, memory-fault}
use Rattle.peer_heap.proofs.side.PeerSide.mark_begin.Goals as goal

pub open_marking-requires-clause-closed : goal.open_marking-requires-clause-closed
open_marking-requires-clause-closed g c = none-open _ c.in-None.ensures

pub returns-in-Some-clause-fault : goal.returns-in-Some-clause-fault
returns-in-Some-clause-fault g c = open-fault _ _ c.in-Some.ensures

pub returns-in-Err-clause-fault : goal.returns-in-Err-clause-fault
returns-in-Err-clause-fault g c = memory-fault _ (none-open _ c.in-None.ensures)
