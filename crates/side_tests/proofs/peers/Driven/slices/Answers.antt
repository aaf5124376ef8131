-- A slice of the driver's marking makes no entry.
use Rattle.std.proofs.Common.{ap, refl}
use Rattle.peer_heap.specs.Sides.{seen}
use Rattle.side_tests.proofs.Counting.{counted-same}
use Rattle.side_tests.proofs.peers.Driven.slices.Goals as goal

pub mark_slice-requires : goal.mark_slice-requires
mark_slice-requires c = c.if-not-is_drivers.ensures c.self.inside.side.state.marking c.marking.ensures refl

pub invariant_of-self : goal.invariant_of-self
invariant_of-self c = counted-same (seen c.self.inside.side) (seen c.mark_slice.new.self) c.self.inside.draw c.self.inside.draw (ap seen c.mark_slice.ensures.rest, refl) c.self.invariant
