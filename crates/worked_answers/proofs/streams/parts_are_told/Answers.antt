use Rattle.worked_answers.proofs.StreamsTold.{parts_are_told}
use Rattle.worked_answers.proofs.streams.parts_are_told.Goals as goal

pub returns : goal.returns
returns c = parts_are_told
