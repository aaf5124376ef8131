use Rattle.worked_answers.proofs.CommandsTold.{wants_are_told}
use Rattle.worked_answers.proofs.commands.wants_are_told.Goals as goal

pub returns : goal.returns
returns c = wants_are_told
