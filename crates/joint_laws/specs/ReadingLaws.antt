-- Histories with lock-free reads: without the reads that are set aside each is a lawful list of entries, so its joint
-- projection is a run of the joint machine, the only one, sound and complete. And what the managed side's own list is
-- in such a history.
use Rattle.std.specs.Prelude.{◌≡◌, ℕ, All, false, not, if◌then◌else◌, List, [], ◌∷◌, filter, Option, Some, None}
use Rattle.std.specs.Prelude.{slice_set}
use Rattle.joint_machine.specs.declared.names.Thread.{Thread}
use Rattle.joint_machine.specs.declared.lines.Act.TheVariants as act
use Rattle.joint_machine.specs.declared.events.Op.{Op}
use Rattle.joint_machine.specs.declared.events.Op.TheVariants as op
use Rattle.joint_machine.specs.declared.events.Reply.{Reply}
use Rattle.joint_machine.specs.declared.events.Reply.TheVariants as says
use Rattle.joint_machine.specs.Headline.{IsSoundRun, IsCompleteRun}
use Rattle.joint_machine.specs.Histories.{Finished}
use Rattle.joint_machine.specs.Lines.{is_read}
use Rattle.joint_machine.specs.Linked.{Linkage, opening_linkage, managed_after}
use Rattle.joint_machine.specs.Replaying.{AllMayCome, machine_entries, replayed}
use Rattle.joint_machine.specs.LinkedHistories.{IsLinkedBy, joint_projection}
use Rattle.joint_machine.specs.Managed.{opening_managed}
use Rattle.joint_machine.specs.ManagedReplay.{ManagedReplay, opening_replay}
use Rattle.joint_machine.specs.Readers.{AllMayComeReading, replayed_reading, is_aside, is_managed_entry}
use Rattle.joint_machine.specs.PinsTold.{AllKeptLawful, PinnedEntry, with_pins}
use Rattle.joint_machine.specs.Run.{Moment, IsRun, thread_number}
use Rattle.joint_machine.specs.Told.{Noted}
use Rattle.joint_laws.specs.Readings.{AreExact, HasReadingRun}

-- the entries but for the reads that are set aside
abbrev pub without_aside : List Noted → List Noted
without_aside ns = filter (λ n. not (is_aside n)) ns

-- a list of entries with lock-free reads is lawful
abbrev pub IsLawfulReading : List Noted → Type 0
IsLawfulReading noted = (whole : List Noted) × (cells : List (Option ℕ))
    × AllMayComeReading whole cells opening_linkage noted

-- without the reads that are set aside it is a lawful list of entries, whatever whole history they were judged by
abbrev pub ReadingIsLawful : Type 0
ReadingIsLawful = (noted : List Noted) → IsLawfulReading noted → AllMayCome opening_linkage (without_aside noted)

-- which leads to the same state of both sides
pub record LeadToSameSides (noted : List Noted) : Type 0 where
  pub managed : (replayed_reading opening_linkage noted).managed
      ≡ (replayed opening_linkage (without_aside noted)).managed
  pub peer : (replayed_reading opening_linkage noted).peer ≡ (replayed opening_linkage (without_aside noted)).peer

abbrev pub ReadingLeadsToSame : Type 0
ReadingLeadsToSame = (noted : List Noted) → IsLawfulReading noted → LeadToSameSides noted

-- and whose joint projection is that of the history: so each law on lawful lists and their runs is one on histories
-- with lock-free reads
abbrev pub ReadingProjectsSo : Type 0
ReadingProjectsSo = (noted : List Noted) → machine_entries (without_aside noted) ≡ joint_projection noted

-- the joint projection of a lawful list of entries with lock-free reads is a run, sound and complete
abbrev pub ReadingProjectionIsComplete : Type 0
ReadingProjectionIsComplete = (noted : List Noted) → IsLawfulReading noted → HasReadingRun noted

-- and so is that of a linked history with lock-free reads
abbrev pub LinkedIsComplete : Type 0
LinkedIsComplete = (h : Finished) (noted : List Noted) → IsLinkedBy h noted → HasReadingRun noted

-- each run over it is sound and complete
abbrev pub EveryReadingRunIsComplete : Type 0
EveryReadingRunIsComplete = (noted : List Noted) (run : List Moment) → IsLawfulReading noted
    → IsRun (joint_projection noted) run → IsSoundRun run × IsCompleteRun run

-- the pins after an event: a read that names an object fills its caller's pin, a `take` that names one empties it
abbrev pub pins_by : List (Option ℕ) → Thread → Op → Reply → List (Option ℕ)
pins_by pins t (op.Line (act.Read k)) (says.M m) = slice_set pins (thread_number t) (Some m.0)
pins_by pins t (op.Line (act.Await k)) (says.M m) = slice_set pins (thread_number t) (Some m.0)
pins_by pins t (op.Line (act.Take v)) (says.M m) = slice_set pins (thread_number t) None
pins_by pins t _ reply = pins

-- the managed side's own list of a history with lock-free reads: its entries, each with the pins that the reads and the
-- takes before it leave
abbrev pub kept_from : List (Option ℕ) → List Noted → List PinnedEntry
kept_from pins [] = []
kept_from pins (n ∷ ns) =
    let rest = kept_from (pins_by pins n.entry.made.caller n.entry.made.op n.entry.made.reply) ns in
    if is_managed_entry n then record { noted = n; pins = pins } ∷ rest else rest

-- that list is lawful
abbrev pub KeptPinsAreLawful : Type 0
KeptPinsAreLawful = (noted : List Noted) → IsLawfulReading noted
    → AllKeptLawful opening_replay (kept_from opening_managed.pins noted)

-- the state after all entries of such a list
abbrev pub kept_replayed : ManagedReplay → List PinnedEntry → ManagedReplay
kept_replayed s [] = s
kept_replayed s (k ∷ ks) = kept_replayed (managed_after (with_pins s k.pins) k.noted.entry.made k.noted.told false) ks

-- the list leads to the managed state of the history, but for the pins
abbrev pub KeptPinsLeadToSame : Type 0
KeptPinsLeadToSame = (noted : List Noted) → IsLawfulReading noted
    → with_pins (kept_replayed opening_replay (kept_from opening_managed.pins noted))
    (replayed_reading opening_linkage noted).managed.managed.pins ≡ (replayed_reading opening_linkage noted).managed

-- then the list is lawful with reads that are events of the one machine as all others are, and leads to the same state:
-- so two such histories of one script, line after line, are one
pub record IsExactList (noted : List Noted) : Type 0 where
  pub lawful : AllMayCome opening_linkage noted
  pub ends : replayed_reading opening_linkage noted ≡ replayed opening_linkage noted

abbrev pub ExactReadingsAreLawful : Type 0
ExactReadingsAreLawful = (noted : List Noted) → IsLawfulReading noted
    → AreExact opening_linkage noted → IsExactList noted

-- a list without reads is exact
abbrev pub ReadlessIsExact : Type 0
ReadlessIsExact = (noted : List Noted) (s : Linkage)
    → All (λ n. is_read n.entry.made.op ≡ false) noted → AreExact s noted
