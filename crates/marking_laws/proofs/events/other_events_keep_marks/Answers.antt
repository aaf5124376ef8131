-- By the lemma.
use Rattle.marking_laws.proofs.MarkEvents.{marks-same}
use Rattle.marking_laws.proofs.events.other_events_keep_marks.Goals as goal

pub returns : goal.returns
returns c = marks-same
