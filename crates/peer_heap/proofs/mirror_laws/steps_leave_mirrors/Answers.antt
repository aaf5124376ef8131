-- Each fact by its lemma.
use Rattle.peer_heap.proofs.Grown.{issued-grows, room-after, step-gives, step-mirrors, step-restores, step-weakens}
use Rattle.peer_heap.proofs.mirror_laws.steps_leave_mirrors.Goals as goal

pub returns : goal.returns
returns c = record { issued = issued-grows; room = room-after; mirrors = step-mirrors; weakens = step-weakens; restores = step-restores; gives = λ t o r w. step-gives t o w r }
