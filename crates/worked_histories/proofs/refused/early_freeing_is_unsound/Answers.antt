use Rattle.worked_histories.proofs.Unsound.{unsound}
use Rattle.worked_histories.proofs.refused.early_freeing_is_unsound.Goals as goal

pub returns : goal.returns
returns c = unsound
