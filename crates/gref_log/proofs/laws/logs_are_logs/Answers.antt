use Rattle.gref_log.proofs.Counting.{logs_are_logs}
use Rattle.gref_log.proofs.laws.logs_are_logs.Goals as goal

pub returns : goal.returns
returns c = logs_are_logs
