-- By the lemma.
use Rattle.marking_laws.proofs.MarkEvents.{marks-brought}
use Rattle.marking_laws.proofs.events.bringing_back_keeps_marks.Goals as goal

pub returns : goal.returns
returns c = marks-brought
