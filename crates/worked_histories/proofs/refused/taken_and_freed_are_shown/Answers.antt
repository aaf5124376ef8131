use Rattle.worked_histories.proofs.Shown.{are_told}
use Rattle.worked_histories.proofs.refused.taken_and_freed_are_shown.Goals as goal

pub returns : goal.returns
returns c = are_told
