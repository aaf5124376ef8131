-- By the invariant.
use Rattle.std.proofs.Common.{subst}
use Rattle.row_heap.specs.Places.{DoMarkedStand}
use Rattle.row_heap.proofs.places.Rows.recall_marked_stand.Goals as goal

pub returns : goal.returns
returns c = subst DoMarkedStand c.self.view_is c.self.invariant.up
