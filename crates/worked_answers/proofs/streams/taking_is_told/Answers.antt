use Rattle.worked_answers.proofs.StreamsTold.{taking_is_told}
use Rattle.worked_answers.proofs.streams.taking_is_told.Goals as goal

pub returns : goal.returns
returns c = taking_is_told
