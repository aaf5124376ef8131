-- Each event by its lemma.
use Rattle.peer_heap.proofs.Mirrored.{renewed-going, stood-going}
use Rattle.peer_heap.proofs.mirror_laws.mirrors_go_on.Goals as goal

pub returns : goal.returns
returns c = record { standing = stood-going; restoring = renewed-going }
