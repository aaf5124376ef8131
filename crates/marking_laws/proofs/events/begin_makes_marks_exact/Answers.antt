-- By the lemma.
use Rattle.marking_laws.proofs.MarkEvents.{marks-begun}
use Rattle.marking_laws.proofs.events.begin_makes_marks_exact.Goals as goal

pub returns : goal.returns
returns c = marks-begun
