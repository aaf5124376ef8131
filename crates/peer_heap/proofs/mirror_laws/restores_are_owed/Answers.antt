-- Each event by its lemma.
use Rattle.peer_heap.proofs.Dues.{IsDue-none, IsDue-weakened, due-some, IsDue-restored}
use Rattle.peer_heap.proofs.mirror_laws.restores_are_owed.Goals as goal

pub returns : goal.returns
returns c = record { first = IsDue-none; weakens = IsDue-weakened; some = due-some; restores = IsDue-restored }
