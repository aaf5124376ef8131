use Rattle.worked_histories.proofs.GapExamples.{collects}
use Rattle.worked_histories.proofs.gaps.collections_in_gaps.Goals as goal

pub returns : goal.returns
returns c = collects
