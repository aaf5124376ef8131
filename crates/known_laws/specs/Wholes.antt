-- A past that is a whole history: with what the order promises of pins and replies it is the list of a linked history.
use Rattle.std.specs.Prelude.{◌≡◌, ℕ, true, List, [], ◌∷◌, map, take, Option}
use Rattle.joint_machine.specs.declared.names.Thread.{Thread}
use Rattle.joint_machine.specs.declared.lines.Act.TheVariants as act
use Rattle.joint_machine.specs.declared.events.Op.{Op}
use Rattle.joint_machine.specs.declared.events.Op.TheVariants as op
use Rattle.joint_machine.specs.Heaps.{slot}
use Rattle.joint_machine.specs.Histories.{Finished, managed_numbers, peer_numbers, NumberedFrom}
use Rattle.joint_machine.specs.Lines.{is_read}
use Rattle.joint_machine.specs.Linked.{Linkage, opening_linkage, IsWhole}
use Rattle.joint_machine.specs.LinkedHistories.{linked_end, IsLinkedBy}
use Rattle.joint_machine.specs.Readers.{ReadsCell, IsReadReply, replayed_reading, AllMayComeReading}
use Rattle.joint_machine.specs.Run.{thread_number}
use Rattle.joint_machine.specs.Told.{Told, Noted}
use Rattle.joint_machine.specs.PinsTold.{no_pins, pins_told}
use Rattle.joint_laws.specs.ReadingLaws.{pins_by}
use Rattle.known_laws.specs.Known.{pinned, without_pins, past_after}
use Rattle.known_laws.specs.Pasts.{end_of}
use Rattle.known_laws.specs.Growing.{Kept, entries_kept, AreKnown, AreWhole, AllCome, past_replayed}
use Rattle.known_laws.specs.PastEntries.{turned}

-- the pins that are told with a snap are these, and with a `take` that of its caller is
abbrev pub ArePinsOf : List (Option ℕ) → Thread → Op → Told → Type 0
ArePinsOf pins t (op.Snap k) told = pins_told told ≡ pins
ArePinsOf pins t (op.Line (act.Take v)) told = slot (pins_told told) (thread_number t) ≡ slot pins (thread_number t)
ArePinsOf pins t o told = Unit {0}

-- what the order promises of an entry that stands behind a past with this state, where the reads and takes before it
-- leave these pins: the pins that are told with it are these, and a read has the reply that whole histories allow
pub record IsAsOrdered (whole : List Noted) (cells : List (Option ℕ))
    (s : Linkage) (pins : List (Option ℕ)) (n : Noted) : Type 0 where
  pub kept : ArePinsOf pins n.entry.made.caller n.entry.made.op n.told
  pub reply : is_read n.entry.made.op ≡ true → (k : ℕ) → ReadsCell n.entry.made.op k
      → IsReadReply whole cells (pinned s pins).managed.managed n.entry.number n.entry.made.caller k n.entry.made.reply

abbrev pub AllOrdered : List Noted → List (Option ℕ) → Linkage → List (Option ℕ) → List Noted → Type 0
AllOrdered whole cells s pins [] = Unit {0}
AllOrdered whole cells s pins (n ∷ ns) = IsAsOrdered whole cells s pins n
    × AllOrdered whole cells (past_after s n) (pins_by pins n.entry.made.caller n.entry.made.op n.entry.made.reply) ns

-- the entries of a past, earliest first, without the pins that were told
abbrev pub history_of : List Noted → List Noted
history_of past = map without_pins (turned [] past)

-- such a list is lawful, and leads to the same state, but for the pins
pub record IsReadList (whole : List Noted) (cells : List (Option ℕ)) (ns : List Noted) : Type 0 where
  pub lawful : AllMayComeReading whole cells opening_linkage (map without_pins ns)
  pub pins : List (Option ℕ)
  pub ends : replayed_reading opening_linkage (map without_pins ns) ≡ pinned (past_replayed opening_linkage ns) pins

abbrev pub PastsAreReadLists : Type 0
PastsAreReadLists = (whole : List Noted) (cells : List (Option ℕ)) (ns : List Noted)
    → AllCome opening_linkage ns → AllOrdered whole cells opening_linkage no_pins ns → IsReadList whole cells ns

-- nothing has to follow, and the freed lists and notices are the sides'
pub record HasEnded (h : Finished) (s : Linkage) : Type 0 where
  pub whole : IsWhole s
  pub freed_managed : managed_numbers h.freed_managed ≡ s.managed.managed.heap.freed
  pub freed_peers : peer_numbers h.freed_peers ≡ s.peer.peers.heap.freed
  pub notices : take s.managed.managed.taken
      (managed_numbers h.notices) ≡ take s.managed.managed.taken s.managed.managed.notices

-- so a past that has ended so, with all lines whole, makes the history linked by its notes, as the order promises it of
-- each entry; and the history ends in the past's state, but for the pins
pub record IsLinkedPast (h : Finished) (past : List Noted) : Type 0 where
  pub linked : IsLinkedBy h (history_of past)
  pub pins : List (Option ℕ)
  pub ends : linked_end (history_of past) ≡ pinned (end_of past) pins

abbrev pub KnownWholeIsLinked : Type 0
KnownWholeIsLinked = (h : Finished) (whole : List Kept) (lines : ℕ → List Kept) (k : AreKnown lines)
    → entries_kept whole ≡ h.entries → NumberedFrom 0 h.entries → AreWhole whole lines
    → AllOrdered (history_of k.past) (end_of k.past).managed.managed.cells opening_linkage no_pins (turned [] k.past)
    → HasEnded h (end_of k.past) → IsLinkedPast h k.past
