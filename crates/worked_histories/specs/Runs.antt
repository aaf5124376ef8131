-- The worked histories as runs of the joint machine: each entry that is a step leads from the joint state of both
-- sides' replays to the next one.
use Rattle.std.specs.Prelude.{[], ◌∷◌}
use Rattle.worked_histories.specs.CrossHeap.{cross_heap_cycle}
use Rattle.worked_histories.specs.Deletion.{deletion}
use Rattle.worked_histories.specs.Phases.{two_phased}
use Rattle.worked_histories.specs.Moments.{IsWorked}
use Rattle.worked_histories.specs.Pins.{pinned_object}
use Rattle.worked_histories.specs.Surfaced.{disposed_and_surfaced}

-- each history's notes make a linked history, and its projection is a run
abbrev pub TwoPhasedRun : Type 0
TwoPhasedRun = IsWorked two_phased ([] ∷ (1 ∷ 2 ∷ []) ∷ [])

abbrev pub CrossHeapRun : Type 0
CrossHeapRun = IsWorked cross_heap_cycle ((1 ∷ 2 ∷ []) ∷ [])

abbrev pub SurfacedRun : Type 0
SurfacedRun = IsWorked disposed_and_surfaced []

abbrev pub PinnedRun : Type 0
PinnedRun = IsWorked pinned_object ([] ∷ [])

abbrev pub DeletionRun : Type 0
DeletionRun = IsWorked deletion ([] ∷ [])
