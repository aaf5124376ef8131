use Rattle.worked_histories.proofs.GapExamples.{drops}
use Rattle.worked_histories.proofs.gaps.drops_in_gaps.Goals as goal

pub returns : goal.returns
returns c = drops
