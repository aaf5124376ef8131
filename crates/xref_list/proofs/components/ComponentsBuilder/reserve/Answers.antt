-- The lists hold what they held.
use Rattle.std.proofs.Common.{ap}
use Rattle.xref_list.specs.Listing.{Listing}
use Rattle.xref_list.proofs.components.ComponentsBuilder.reserve.Goals as goal

pub invariant_of-self : goal.invariant_of-self
invariant_of-self c = rw (c.take_room.ensures.kept.2, c.take_room.ensures.kept.0, c.take_room.ensures.kept.1) c.self.invariant

pub returns-clause-comps : goal.returns-clause-comps
returns-clause-comps c = rw (c.take_room.ensures.kept.0, c.take_room.ensures.kept.2) (ap (λ (v : Listing). v.comps) c.self.view_is)

pub returns-clause-pairs : goal.returns-clause-pairs
returns-clause-pairs c = ap (λ (v : Listing). v.pairs) c.self.view_is
