use Rattle.worked_answers.proofs.LogsTold.{keys_are_told}
use Rattle.worked_answers.proofs.logs.keys_are_told.Goals as goal

pub returns : goal.returns
returns c = keys_are_told
