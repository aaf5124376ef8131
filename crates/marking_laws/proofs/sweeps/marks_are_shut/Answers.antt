-- By the lemma.
use Rattle.marking_laws.proofs.MarkSweeps.{marks-shut}
use Rattle.marking_laws.proofs.sweeps.marks_are_shut.Goals as goal

pub returns : goal.returns
returns c = marks-shut
