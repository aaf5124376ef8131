use Rattle.worked_histories.proofs.Examples.{refusals-holds}
use Rattle.worked_histories.proofs.further.refusals_is_lawful.Goals as goal

pub returns : goal.returns
returns c = refusals-holds
