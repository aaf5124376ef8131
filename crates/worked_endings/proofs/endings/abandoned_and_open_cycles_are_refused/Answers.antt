use Rattle.worked_endings.proofs.Ends.{cycles_refused}
use Rattle.worked_endings.proofs.endings.abandoned_and_open_cycles_are_refused.Goals as goal

pub returns : goal.returns
returns c = cycles_refused
