use Rattle.worked_histories.proofs.GapExamples.{begins}
use Rattle.worked_histories.proofs.gaps.begins_in_gaps.Goals as goal

pub returns : goal.returns
returns c = begins
