use Rattle.worked_answers.proofs.ThreadsTold.{threads_are_told}
use Rattle.worked_answers.proofs.histories.threads_are_told.Goals as goal

pub returns : goal.returns
returns c = threads_are_told
