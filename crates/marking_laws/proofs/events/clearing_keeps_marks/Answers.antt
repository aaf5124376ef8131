-- By the lemma.
use Rattle.marking_laws.proofs.MarkEvents.{marks-cleared}
use Rattle.marking_laws.proofs.events.clearing_keeps_marks.Goals as goal

pub returns : goal.returns
returns c = marks-cleared
