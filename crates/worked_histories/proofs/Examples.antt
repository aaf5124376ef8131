-- The worked histories, each by computing.
use Rattle.std.proofs.Common.{refl, ◌+◌, map, [], ◌∷◌}
use Rattle.joint_machine.specs.Linked.{opening_linkage}
use Rattle.joint_machine.specs.Replaying.{AllMayCome}
use Rattle.joint_machine.specs.LinkedHistories.{linked_end}
use Rattle.computed_histories.proofs.HistoryTests.{numbered, whole}
use Rattle.worked_histories.specs.CrossHeap.{cross_heap_cycle}
use Rattle.worked_histories.specs.Deletion.{deletion}
use Rattle.worked_histories.specs.Abandoned.{abandoned, AbandonedHolds}
use Rattle.worked_histories.specs.EndedMarking.{ended_marking, EndedMarkingHolds}
use Rattle.worked_histories.specs.GlobalNames.{global_names, GlobalNamesHold}
use Rattle.worked_histories.specs.HeldPeer.{held_peer, HeldPeerHolds}
use Rattle.worked_histories.specs.Meeting.{meeting_history, seven, MeetingHolds}
use Rattle.worked_histories.specs.MovedPeer.{moved_peer, MovedPeerHolds}
use Rattle.worked_histories.specs.OneObject.{one_object, OneObjectHolds}
use Rattle.worked_histories.specs.PeerMarking.{peer_marking, PeerMarkingHolds}
use Rattle.worked_histories.specs.PendingRead.{pending_read, PendingReadHolds}
use Rattle.worked_histories.specs.PlainBetween.{plain_between, PlainBetweenHolds}
use Rattle.worked_histories.specs.PlainObject.{plain_object, PlainObjectHolds}
use Rattle.worked_histories.specs.RareAnswers.{answers_while_open, framework_twin, begun_before_restore, RareAnswersHold}
use Rattle.worked_histories.specs.Refusals.{refusals, RefusalsHold}
use Rattle.worked_histories.specs.RenewedHandle.{renewed_handle, RenewedHandleHolds}
use Rattle.worked_histories.specs.Resurrected.{resurrected, ResurrectedHolds}
use Rattle.worked_histories.specs.TwoMarkings.{two_markings, TwoMarkingsHold}
use Rattle.worked_histories.specs.Phases.{two_phased}
use Rattle.worked_histories.specs.Pins.{pinned_object}
use Rattle.worked_histories.specs.Runs.{TwoPhasedRun, CrossHeapRun, SurfacedRun, PinnedRun, DeletionRun}
use Rattle.worked_histories.specs.Surfaced.{disposed_and_surfaced}
use Rattle.worked_histories.specs.Wholes.{cross_heap_finished, two_phased_finished, HistoriesAreWhole}
use Rattle.worked_histories.proofs.Worked.{lawful, worked}

pub abandoned-holds : AbandonedHolds
abandoned-holds = worked abandoned [] refl

pub ended_marking-holds : EndedMarkingHolds
ended_marking-holds = worked ended_marking ((1 ∷ 2 ∷ []) ∷ [] ∷ []) refl

pub global_names-holds : GlobalNamesHold
global_names-holds = worked global_names ([] ∷ (1 ∷ []) ∷ []) refl

pub held_peer-holds : HeldPeerHolds
held_peer-holds = worked held_peer ([] ∷ []) refl

pub meeting-holds : MeetingHolds
meeting-holds = worked meeting_history (map (λ i. i + 1) seven ∷ []) refl

pub moved_peer-holds : MovedPeerHolds
moved_peer-holds = worked moved_peer ([] ∷ []) refl

pub one_object-holds : OneObjectHolds
one_object-holds = worked one_object ((1 ∷ []) ∷ []) refl

pub peer_marking-holds : PeerMarkingHolds
peer_marking-holds = worked peer_marking ((1 ∷ 2 ∷ []) ∷ [] ∷ []) refl

pub pending_read-holds : PendingReadHolds
pending_read-holds = worked pending_read ((1 ∷ []) ∷ []) refl

pub plain_between-holds : PlainBetweenHolds
plain_between-holds = worked plain_between ([] ∷ []) refl

pub plain_object-holds : PlainObjectHolds
plain_object-holds = worked plain_object ([] ∷ []) refl

pub rare_answers-hold : RareAnswersHold
rare_answers-hold = record {
  while_open = worked answers_while_open ([] ∷ []) refl;
  without_fields = worked framework_twin [] refl;
  before_restore = worked begun_before_restore ((1 ∷ []) ∷ [] ∷ []) refl;
}

pub refusals-holds : RefusalsHold
refusals-holds = worked refusals ([] ∷ []) refl

pub renewed_handle-holds : RenewedHandleHolds
renewed_handle-holds = worked renewed_handle ([] ∷ []) refl

pub resurrected-holds : ResurrectedHolds
resurrected-holds = worked resurrected ([] ∷ []) refl

pub two_markings-holds : TwoMarkingsHold
two_markings-holds = worked two_markings ([] ∷ [] ∷ []) refl

pub two_phased-run : TwoPhasedRun
two_phased-run = worked two_phased ([] ∷ (1 ∷ 2 ∷ []) ∷ []) refl

pub two_phased-lawful : AllMayCome opening_linkage two_phased
two_phased-lawful = lawful two_phased refl

pub cross_heap_cycle-run : CrossHeapRun
cross_heap_cycle-run = worked cross_heap_cycle ((1 ∷ 2 ∷ []) ∷ []) refl

pub cross_heap_cycle-lawful : AllMayCome opening_linkage cross_heap_cycle
cross_heap_cycle-lawful = lawful cross_heap_cycle refl

pub disposed_and_surfaced-run : SurfacedRun
disposed_and_surfaced-run = worked disposed_and_surfaced [] refl

pub disposed_and_surfaced-lawful : AllMayCome opening_linkage disposed_and_surfaced
disposed_and_surfaced-lawful = lawful disposed_and_surfaced refl

pub pinned_object-run : PinnedRun
pinned_object-run = worked pinned_object ([] ∷ []) refl

pub pinned_object-lawful : AllMayCome opening_linkage pinned_object
pinned_object-lawful = lawful pinned_object refl

pub deletion-run : DeletionRun
deletion-run = worked deletion ([] ∷ []) refl

pub deletion-lawful : AllMayCome opening_linkage deletion
deletion-lawful = lawful deletion refl

-- finished histories
pub histories-whole : HistoriesAreWhole
histories-whole = record {
  cross_heap = record {
    same = refl;
    numbers = (numbered 0 cross_heap_finished.entries).holds refl;
    lawful = cross_heap_cycle-run.linked.lawful;
    whole = (whole (linked_end cross_heap_cycle)).holds refl;
    freed_managed = refl;
    freed_peers = refl;
    notices = refl;
  };
  queued = refl;
  no_notices = record {
    same = refl;
    numbers = (numbered 0 two_phased_finished.entries).holds refl;
    lawful = two_phased-run.linked.lawful;
    whole = (whole (linked_end two_phased)).holds refl;
    freed_managed = refl;
    freed_peers = refl;
    notices = refl;
  };
}
