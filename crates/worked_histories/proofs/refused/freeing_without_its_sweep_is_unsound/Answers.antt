use Rattle.worked_histories.proofs.WithPeers.{unsound}
use Rattle.worked_histories.proofs.refused.freeing_without_its_sweep_is_unsound.Goals as goal

pub returns : goal.returns
returns c = unsound
