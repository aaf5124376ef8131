-- What a finished run's history is: linked, with all that was queued; each cycle ends in it; it is a run of the one
-- machine whose single graph joins both heaps, sound and complete; and what is read of a freed object is gone. Of the
-- lines it holds, line after line or thread by thread, each once.
-- Believed: the clauses of the program's top call rest on all that stands here.
use Rattle.std.specs.Prelude.{◌≡◌, ◌⊎◌, ℕ, ◌<◌, List, [], Some, slice_get}
use Rattle.joint_machine.specs.declared.names.Cycle.{Cycle}
use Rattle.joint_machine.specs.declared.names.Thread.{Thread}
use Rattle.joint_machine.specs.declared.lines.Act.{Act}
use Rattle.joint_machine.specs.declared.events.Op.TheVariants as op
use Rattle.joint_machine.specs.declared.events.Reply.TheVariants as says
use Rattle.joint_machine.specs.Headline.{IsSoundRun, IsCompleteRun}
use Rattle.joint_machine.specs.Histories.{Finished}
use Rattle.joint_machine.specs.Linked.{opening_linkage}
use Rattle.joint_machine.specs.LinkedHistories.{IsLinked, IsLinkedBy, HasQueued, joint_projection}
use Rattle.joint_machine.specs.Readers.{HasEventAt}
use Rattle.joint_machine.specs.Run.{Moment, IsRun}
use Rattle.joint_machine.specs.Told.{Noted}
use Rattle.joint_laws.specs.Afterwards.{IsGoneAfter, NoMirrorBetween, ReadsObject, ReadsPeer, ResolveFrees, SweepFrees}
use Rattle.joint_laws.specs.Afterwards.{reading_at}
use Rattle.joint_laws.specs.Readings.{AreExact}
use Rattle.order_table.specs.Gated.{IsGated}
use Rattle.pin_laws.specs.Pins.{PinsHold}
use Rattle.history_report.specs.Report.{report}
use Rattle.script_laws.specs.Ending.{AllCyclesEnd}
use Rattle.script_laws.specs.Holding.{HoldsInOrder, HoldsPerThread}
use Rattle.script_laws.specs.OneHistory.{IsOneHistory}
use Rattle.run_laws.specs.PeersKept.{KeepsHeldPeers, SparesReached}
use Rattle.run_laws.specs.Waits.{WaitsEnd}

-- from its resolve on, a read of a cell whose target was freed answers gone, unless the caller's pin is filled, a later
-- cycle is open, or it answers pending by what its caller could know
abbrev pub FreedReadsAreGone : List Noted → Type 0
FreedReadsAreGone noted = (i j k m : ℕ) (n : Noted) → ResolveFrees noted i k m → i < j
    → slice_get noted j ≡ Some n → ReadsObject (reading_at noted j).managed.managed n m
    → ((c : Cycle) × (n.entry.made.reply ≡ says.Pending c))
    ⊎ IsGoneAfter (reading_at noted j).managed.managed n.entry.made.caller k n.entry.made.reply

-- from its sweep on, a weak read of a freed peer answers gone
abbrev pub FreedPeersAreGone : List Noted → Type 0
FreedPeersAreGone noted = (i j p : ℕ) (n : Noted) → SweepFrees noted i p → i < j
    → slice_get noted j ≡ Some n → ReadsPeer (reading_at noted j).peer n p → n.entry.made.reply ≡ says.Gone

-- from a clear to the next mirror no mirrored reference stands
abbrev pub ClearsLeaveNone : List Noted → Type 0
ClearsLeaveNone noted = (i j k : ℕ) → HasEventAt noted i (op.Clear record { 0 = k })
    → i < j → NoMirrorBetween noted i j → (reading_at noted j).peer.refs ≡ []

-- what the history of every run has, with what is told beside its entries
pub record IsBridgeRun (h : Finished) (noted : List Noted) : Type 0 where
  -- it is linked, and its notices are all that were queued
  pub linked : IsLinkedBy h noted
  pub queued : HasQueued h noted
  -- no cycle is abandoned, and each snapshot's own resolve comes before the next snapshot
  pub ends : AllCyclesEnd h.entries
  -- the machine whose one graph joins both heaps runs through it, and its run is sound and complete
  pub moments : List Moment
  pub run : IsRun (joint_projection noted) moments
  pub sound : IsSoundRun moments
  pub complete : IsCompleteRun moments
  -- no object outlives its peer but a candidate of an open cycle, and no sweep frees a peer that was reached since its
  -- marking began
  pub held_peers : KeepsHeldPeers moments
  pub spares : SparesReached moments
  -- its reads are such as the gate lets in, and what a read gave to a thread isn't freed before the thread's next `take`
  pub gated : IsGated noted
  pub pinned : PinsHold noted
  -- what was freed is gone, and what was mirrored for a cycle goes with it
  pub reads_gone : FreedReadsAreGone noted
  pub peers_gone : FreedPeersAreGone noted
  pub cleared : ClearsLeaveNone noted
  -- every linked history with the same text is this one
  pub named : (other : Finished) (theirs : IsLinked other) → report other ≡ report h
      → IsOneHistory other h theirs record { noted = noted; linked = linked }

-- the history of a script's run on one thread: it holds the script's lines in their order, and each read answers as the
-- one machine does, `pending` and `unset` included; every linked history that does both is this one
pub record IsRunInOrder (script : List (Thread × Act)) (h : Finished) : Type 0 where
  pub noted : List Noted
  pub kept : IsBridgeRun h noted
  pub lines : HoldsInOrder script h.entries
  pub exact : AreExact opening_linkage noted
  pub only : (other : Finished) (theirs : IsLinked other) → AreExact opening_linkage theirs.noted
      → HoldsInOrder script other.entries → IsOneHistory other h theirs record { noted = noted; linked = kept.linked }

-- the history of a script's run on many threads: of each thread it holds the lines in their order, and no wait answers
-- `pending`
pub record IsRunByThreads (script : List (Thread × Act)) (h : Finished) : Type 0 where
  pub noted : List Noted
  pub kept : IsBridgeRun h noted
  pub lines : HoldsPerThread script h.entries
  pub waits : WaitsEnd h.entries
