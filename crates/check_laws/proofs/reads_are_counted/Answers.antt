use Rattle.check_laws.proofs.Counting.{reads_counted}
use Rattle.check_laws.proofs.reads_are_counted.Goals as goal

pub returns : goal.returns
returns c = reads_counted
