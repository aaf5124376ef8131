use Rattle.worked_histories.proofs.Examples.{abandoned-holds}
use Rattle.worked_histories.proofs.further.abandoned_is_lawful.Goals as goal

pub returns : goal.returns
returns c = abandoned-holds
