-- The open marking ends, if one is open, which the side tells.
use Rattle.std.proofs.Common.{refl}
use Rattle.peer_heap.proofs.Ends.{none-open, open-ended}
use Rattle.peer_heap.proofs.side.PeerSide.sweep.Goals as goal

pub close_marking-gone-requires-clause-ended : goal.close_marking-gone-requires-clause-ended
close_marking-gone-requires-clause-ended g c = open-ended _ _ c.args.caller c.in-Some.ensures c.requires.own

pub returns-in-None-clause-err : goal.returns-in-None-clause-err
returns-in-None-clause-err g c = (none-open _ c.in-None.ensures, refl, refl)
