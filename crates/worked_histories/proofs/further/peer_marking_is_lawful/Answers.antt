use Rattle.worked_histories.proofs.Examples.{peer_marking-holds}
use Rattle.worked_histories.proofs.further.peer_marking_is_lawful.Goals as goal

pub returns : goal.returns
returns c = peer_marking-holds
