use Rattle.worked_histories.proofs.Examples.{histories-whole}
use Rattle.worked_histories.proofs.histories.finished_histories_are_linked.Goals as goal

pub returns : goal.returns
returns c = histories-whole
