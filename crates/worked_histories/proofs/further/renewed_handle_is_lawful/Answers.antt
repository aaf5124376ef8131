use Rattle.worked_histories.proofs.Examples.{renewed_handle-holds}
use Rattle.worked_histories.proofs.further.renewed_handle_is_lawful.Goals as goal

pub returns : goal.returns
returns c = renewed_handle-holds
