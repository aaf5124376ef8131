use Rattle.worked_histories.proofs.GapExamples.{reads}
use Rattle.worked_histories.proofs.gaps.reads_in_gaps.Goals as goal

pub returns : goal.returns
returns c = reads
