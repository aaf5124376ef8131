use Rattle.worked_histories.proofs.Examples.{plain_between-holds}
use Rattle.worked_histories.proofs.further.plain_between_is_lawful.Goals as goal

pub returns : goal.returns
returns c = plain_between-holds
