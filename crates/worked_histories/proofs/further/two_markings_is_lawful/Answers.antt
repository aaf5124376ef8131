use Rattle.worked_histories.proofs.Examples.{two_markings-holds}
use Rattle.worked_histories.proofs.further.two_markings_is_lawful.Goals as goal

pub returns : goal.returns
returns c = two_markings-holds
