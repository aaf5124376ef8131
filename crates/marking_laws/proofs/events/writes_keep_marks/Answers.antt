-- By the lemma.
use Rattle.marking_laws.proofs.MarkEvents.{marks-written}
use Rattle.marking_laws.proofs.events.writes_keep_marks.Goals as goal

pub returns : goal.returns
returns c = marks-written
