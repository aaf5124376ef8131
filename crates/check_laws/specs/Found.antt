-- What a history was found to be: legal, or which entry is the first that isn't in order and which test fails first, or
-- unfinished.
use Rattle.std.specs.Prelude.{◌≡◌, ℕ, ◌↔◌, List, take, sum_by}
use Rattle.joint_machine.specs.declared.events.Reply.{Reply}
use Rattle.joint_machine.specs.declared.events.Reply.TheVariants as says
use Rattle.joint_machine.specs.Histories.{Finished, managed_numbers, peer_numbers, NumberedFrom}
use Rattle.joint_machine.specs.LinkedHistories.{IsLinked}
use Rattle.joint_machine.specs.Told.{Noted}
use Rattle.known_laws.specs.PastEntries.{entries}
use Rattle.check_laws.specs.declared.findings.Finding.{Finding}
use Rattle.check_laws.specs.declared.findings.Finding.TheVariants as finding
use Rattle.check_laws.specs.Behind.{state_of}
use Rattle.check_laws.specs.Findings.{HasSoundAndCompleteRun, IsAllInOrder, IsFinding, NothingFollows}

-- a history has one finding
abbrev pub HistoryHasOneFinding : Type 0
HistoryHasOneFinding = (h : Finished) (f g : Finding) → IsFinding h f → IsFinding h g → f ≡ g

-- how many freed objects, and how many freed peers, a reply names
abbrev pub objects_in : Reply → ℕ
objects_in (says.Snapped count span) = span.count
objects_in (says.Freed span) = span.count
objects_in _ = 0

abbrev pub peers_in : Reply → ℕ
peers_in (says.Swept j span) = span.count
peers_in _ = 0

-- the history with as much of its freed lists as its replies name: what stands behind that is in no entry
abbrev pub as_named : Finished → Finished
as_named h = record h {
  freed_managed = take (sum_by (λ e. objects_in e.made.reply) h.entries) h.freed_managed;
  freed_peers = take (sum_by (λ e. peers_in e.made.reply) h.entries) h.freed_peers;
}

-- where all entries are in order, and nothing has to follow, what the replies name of the freed lists is what was
-- freed, and of the notices what was taken
pub record AreLists (h : Finished) (past : List Noted) : Type 0 where
  pub objects : managed_numbers (as_named h).freed_managed ≡ (state_of past).managed.managed.heap.freed
  pub peers : peer_numbers (as_named h).freed_peers ≡ (state_of past).peer.peers.heap.freed
  pub notices : take (state_of past).managed.managed.taken (managed_numbers h.notices) ≡ take
      (state_of past).managed.managed.taken (state_of past).managed.managed.notices

abbrev pub NamesAreLists : Type 0
NamesAreLists = (h : Finished) (past : List Noted) → NumberedFrom 0 h.entries
    → IsAllInOrder h past → NothingFollows past → AreLists h past

-- a history is legal exactly where it is linked
abbrev pub LegalIsLinked : Type 0
LegalIsLinked = (h : Finished) → NumberedFrom 0 h.entries → IsFinding h finding.Legal ↔ IsLinked (as_named h)

abbrev pub LinkedRuns : Type 0
LinkedRuns = (h : Finished) → IsLinked h → HasSoundAndCompleteRun h
