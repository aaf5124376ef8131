-- Reads that are set aside: what the entries of the managed list before one of them say of the open cycle and of its
-- cell, and that a history in which each answers as these say is one in which each read answers as the one machine
-- does.
use Rattle.std.specs.Prelude.{◌≡◌, ℕ, List, [], ◌∷◌, ◌++◌, Contains, Option, Some, None}
use Rattle.joint_machine.specs.declared.events.Reply.{Reply}
use Rattle.joint_machine.specs.declared.events.Reply.TheVariants as says
use Rattle.joint_machine.specs.declared.events.Entry.{Entry}
use Rattle.joint_machine.specs.Histories.{Finished}
use Rattle.joint_machine.specs.HistoryLines.{entries_in}
use Rattle.joint_machine.specs.Linked.{opening_linkage}
use Rattle.joint_machine.specs.LinkedHistories.{IsLinkedBy}
use Rattle.joint_machine.specs.Readers.{ReadsCell, SetsCell}
use Rattle.joint_machine.specs.Told.{Noted}
use Rattle.joint_laws.specs.Readings.{AreExact}
use Rattle.known_laws.specs.Drawn.{open_after}

-- the number of the open cycle after the entries of a managed list, earliest first
abbrev pub open_from : Option ℕ → List Entry → Option ℕ
open_from o [] = o
open_from o (e ∷ es) = open_from (open_after e.made.op o) es

abbrev pub open_among : List Entry → Option ℕ
open_among es = open_from None es

-- an entry set the cell
abbrev pub HasSet : ℕ → Entry → Type 0
HasSet k e = SetsCell e.made.op k × (e.made.reply ≡ says.Ok)

-- a read of the cell may answer so by the managed list before it: `pending k` while cycle k is open, and `unset` while
-- none is open and no entry has set the cell
abbrev pub IsAsideBy : List Entry → ℕ → Reply → Type 0
IsAsideBy ml k (says.Pending c) = open_among ml ≡ Some c.0
IsAsideBy ml k says.Unset = (open_among ml ≡ None) × ((e : Entry) → Contains ml e → HasSet k e → ⊥)
IsAsideBy ml k _ = Unit {0}

-- so each read of these entries answers, where this is the managed list before them
abbrev pub AsidesAreExact : List Entry → List Entry → Type 0
AsidesAreExact ml [] = Unit {0}
AsidesAreExact ml (e ∷ es) = ((k : ℕ) → ReadsCell e.made.op k → IsAsideBy ml k e.made.reply)
    × AsidesAreExact (ml ++ entries_in 0 (e ∷ [])) es

-- then each read of a linked history answers as the one machine does
abbrev pub ExactAsidesAreReplies : Type 0
ExactAsidesAreReplies = (h : Finished) (noted : List Noted) → IsLinkedBy h noted
    → AsidesAreExact [] h.entries → AreExact opening_linkage noted
