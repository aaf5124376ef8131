-- The side tells whether a marking is open.
use Rattle.std.proofs.Common.{refl, sym}
use Rattle.std.proofs.lemmas.Bool.{true≢false}
use Rattle.peer_heap.proofs.Ends.{none-told, some-told}
use Rattle.peer_heap.proofs.side.PeerSide.mark_slice.Goals as goal

pub returns-in-None-clause-open : goal.returns-in-None-clause-open
returns-in-None-clause-open c = ((λ ok. absurd (true≢false (sym ok))), (λ some. absurd (none-told c.args.self.now.state.marking c.in-None.ensures some)))

pub returns-in-Some-clause-open : goal.returns-in-Some-clause-open
returns-in-Some-clause-open c = ((λ ok. some-told _ c.args.self.now.state.marking c.in-Some.ensures), (λ some. refl))
