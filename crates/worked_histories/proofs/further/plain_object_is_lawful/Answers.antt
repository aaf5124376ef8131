use Rattle.worked_histories.proofs.Examples.{plain_object-holds}
use Rattle.worked_histories.proofs.further.plain_object_is_lawful.Goals as goal

pub returns : goal.returns
returns c = plain_object-holds
