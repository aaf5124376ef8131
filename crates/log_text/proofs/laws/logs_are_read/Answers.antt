use Rattle.log_text.proofs.LogTexts.{one-log}
use Rattle.log_text.proofs.Wrong.{no-log}
use Rattle.log_text.proofs.laws.logs_are_read.Goals as goal

pub returns-clause-one : goal.returns-clause-one
returns-clause-one c = one-log

pub returns-clause-fault : goal.returns-clause-fault
returns-clause-fault c = λ bytes line why small f. no-log bytes small line why f
