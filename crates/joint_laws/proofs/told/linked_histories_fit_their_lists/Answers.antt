use Rattle.joint_laws.proofs.FittingLists.{linked_is_history}
use Rattle.joint_laws.proofs.told.linked_histories_fit_their_lists.Goals as goal

pub returns : goal.returns
returns c = linked_is_history
