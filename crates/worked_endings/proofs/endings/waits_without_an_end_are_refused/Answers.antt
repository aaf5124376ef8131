use Rattle.worked_endings.proofs.Ends.{waits_refused}
use Rattle.worked_endings.proofs.endings.waits_without_an_end_are_refused.Goals as goal

pub returns : goal.returns
returns c = waits_refused
