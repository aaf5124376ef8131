-- By the lemma.
use Rattle.marking_laws.proofs.MarkEvents.{marks-stood}
use Rattle.marking_laws.proofs.events.standing_keeps_marks.Goals as goal

pub returns : goal.returns
returns c = marks-stood
