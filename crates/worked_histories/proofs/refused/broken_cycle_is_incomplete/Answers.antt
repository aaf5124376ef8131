use Rattle.worked_histories.proofs.WithPeers.{incomplete}
use Rattle.worked_histories.proofs.refused.broken_cycle_is_incomplete.Goals as goal

pub returns : goal.returns
returns c = incomplete
