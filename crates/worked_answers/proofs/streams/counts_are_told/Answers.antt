use Rattle.worked_answers.proofs.StreamsTold.{counts_are_told}
use Rattle.worked_answers.proofs.streams.counts_are_told.Goals as goal

pub returns : goal.returns
returns c = counts_are_told
