-- Finished histories that are linked by their notes: nothing is left half done, and the lists that spans name are what
-- was freed and queued.
use Rattle.std.specs.Prelude.{[], ◌∷◌, map}
use Rattle.joint_machine.specs.Histories.{Finished}
use Rattle.joint_machine.specs.LinkedHistories.{IsLinkedBy, HasQueued}
use Rattle.worked_histories.specs.CrossHeap.{cross_heap_cycle}
use Rattle.worked_histories.specs.Notes.{object_no, peer_no}
use Rattle.worked_histories.specs.Phases.{two_phased}

-- the history of the cycle across both heaps: it frees two objects and two peers, and queues two notices
abbrev pub cross_heap_finished : Finished
cross_heap_finished = record {
  entries = map (λ n. n.entry) cross_heap_cycle;
  freed_managed = object_no 1 ∷ object_no 2 ∷ [];
  freed_peers = peer_no 1 ∷ peer_no 2 ∷ [];
  notices = object_no 1 ∷ object_no 2 ∷ [];
}

-- the history of the two linked objects, in which nobody takes notices: its list may leave out those that are only
-- queued
abbrev pub two_phased_finished : Finished
two_phased_finished = record {
  entries = map (λ n. n.entry) two_phased;
  freed_managed = object_no 1 ∷ object_no 2 ∷ [];
  freed_peers = peer_no 1 ∷ peer_no 2 ∷ [];
  notices = [];
}

-- both are linked, and the first one's list has every notice that was queued
pub record HistoriesAreWhole : Type 0 where
  pub cross_heap : IsLinkedBy cross_heap_finished cross_heap_cycle
  pub queued : HasQueued cross_heap_finished cross_heap_cycle
  pub no_notices : IsLinkedBy two_phased_finished two_phased
