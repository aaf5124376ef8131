use Rattle.worked_histories.proofs.Examples.{global_names-holds}
use Rattle.worked_histories.proofs.further.global_names_is_lawful.Goals as goal

pub returns : goal.returns
returns c = global_names-holds
