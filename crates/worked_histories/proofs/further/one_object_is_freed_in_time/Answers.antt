use Rattle.worked_histories.proofs.FreeingOne.{one_object-freed}
use Rattle.worked_histories.proofs.further.one_object_is_freed_in_time.Goals as goal

pub returns : goal.returns
returns c = one_object-freed
