use Rattle.worked_histories.proofs.Examples.{ended_marking-holds}
use Rattle.worked_histories.proofs.further.ended_marking_is_lawful.Goals as goal

pub returns : goal.returns
returns c = ended_marking-holds
