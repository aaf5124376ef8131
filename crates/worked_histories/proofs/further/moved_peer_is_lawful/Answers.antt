use Rattle.worked_histories.proofs.Examples.{moved_peer-holds}
use Rattle.worked_histories.proofs.further.moved_peer_is_lawful.Goals as goal

pub returns : goal.returns
returns c = moved_peer-holds
