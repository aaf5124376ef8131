use Rattle.worked_endings.proofs.Ends.{reads_refused}
use Rattle.worked_endings.proofs.endings.reads_of_the_freed_are_refused.Goals as goal

pub returns : goal.returns
returns c = reads_refused
