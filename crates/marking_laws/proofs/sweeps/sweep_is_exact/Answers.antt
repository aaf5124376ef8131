-- By the lemma.
use Rattle.marking_laws.proofs.MarkSweeps.{marks-sweep}
use Rattle.marking_laws.proofs.sweeps.sweep_is_exact.Goals as goal

pub returns : goal.returns
returns c = marks-sweep
