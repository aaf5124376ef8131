use Rattle.worked_histories.proofs.Examples.{meeting-holds}
use Rattle.worked_histories.proofs.further.meeting_is_lawful.Goals as goal

pub returns : goal.returns
returns c = meeting-holds
