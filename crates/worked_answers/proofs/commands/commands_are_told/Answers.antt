use Rattle.worked_answers.proofs.CommandsTold.{commands_are_told}
use Rattle.worked_answers.proofs.commands.commands_are_told.Goals as goal

pub returns : goal.returns
returns c = commands_are_told
