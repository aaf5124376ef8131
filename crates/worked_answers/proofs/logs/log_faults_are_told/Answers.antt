use Rattle.worked_answers.proofs.LogsTold.{log_faults_are_told}
use Rattle.worked_answers.proofs.logs.log_faults_are_told.Goals as goal

pub returns : goal.returns
returns c = log_faults_are_told
