-- By the lemma.
use Rattle.marking_laws.proofs.MarkEvents.{marks-new}
use Rattle.marking_laws.proofs.events.new_peers_keep_marks.Goals as goal

pub returns : goal.returns
returns c = marks-new
