-- By the lemma.
use Rattle.marking_laws.proofs.MarkSweeps.{marks-can_free}
use Rattle.marking_laws.proofs.sweeps.sweep_is_safe.Goals as goal

pub returns : goal.returns
returns c = marks-can_free
