use Rattle.worked_histories.proofs.Examples.{resurrected-holds}
use Rattle.worked_histories.proofs.further.resurrected_is_lawful.Goals as goal

pub returns : goal.returns
returns c = resurrected-holds
