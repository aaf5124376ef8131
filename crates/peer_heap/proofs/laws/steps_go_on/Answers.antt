-- By the lemma.
use Rattle.peer_heap.proofs.Marks.{marks-step}
use Rattle.peer_heap.proofs.laws.steps_go_on.Goals as goal

pub returns : goal.returns
returns c = marks-step
