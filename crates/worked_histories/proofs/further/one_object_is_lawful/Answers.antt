use Rattle.worked_histories.proofs.Examples.{one_object-holds}
use Rattle.worked_histories.proofs.further.one_object_is_lawful.Goals as goal

pub returns : goal.returns
returns c = one_object-holds
