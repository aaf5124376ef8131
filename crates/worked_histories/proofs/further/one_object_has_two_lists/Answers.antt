use Rattle.worked_histories.proofs.SideLists.{one_object-sides}
use Rattle.worked_histories.proofs.further.one_object_has_two_lists.Goals as goal

pub returns : goal.returns
returns c = one_object-sides
