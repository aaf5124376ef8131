use Rattle.worked_histories.proofs.Unsound.{incomplete}
use Rattle.worked_histories.proofs.refused.left_garbage_is_incomplete.Goals as goal

pub returns : goal.returns
returns c = incomplete
