use Rattle.worked_histories.proofs.GapExamples.{waits}
use Rattle.worked_histories.proofs.gaps.waits_in_gaps.Goals as goal

pub returns : goal.returns
returns c = waits
