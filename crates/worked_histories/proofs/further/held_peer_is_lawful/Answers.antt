use Rattle.worked_histories.proofs.Examples.{held_peer-holds}
use Rattle.worked_histories.proofs.further.held_peer_is_lawful.Goals as goal

pub returns : goal.returns
returns c = held_peer-holds
