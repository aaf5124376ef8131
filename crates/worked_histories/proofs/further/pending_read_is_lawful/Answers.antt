use Rattle.worked_histories.proofs.Examples.{pending_read-holds}
use Rattle.worked_histories.proofs.further.pending_read_is_lawful.Goals as goal

pub returns : goal.returns
returns c = pending_read-holds
