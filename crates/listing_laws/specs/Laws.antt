-- The laws.
use Rattle.std.specs.Prelude.{◌≡◌, ℕ, List, [], ◌∷◌, ◌++◌, Option, Some, Result}
use mathlib.Core.List.{IsPrefix}
use Rattle.joint_machine.specs.declared.names.Cycle.{Cycle}
use Rattle.joint_machine.specs.declared.names.Phase.{Phase}
use Rattle.joint_machine.specs.declared.names.Thread.TheVariants.{C}
use Rattle.joint_machine.specs.declared.lines.Act.{Act}
use Rattle.joint_machine.specs.declared.events.Entry.{Entry}
use Rattle.joint_machine.specs.declared.events.Op.TheVariants as op
use Rattle.joint_machine.specs.Histories.{Finished}
use Rattle.joint_machine.specs.Linked.{opening_linkage}
use Rattle.joint_machine.specs.LinkedHistories.{IsLinked, IsLinkedBy}
use Rattle.joint_machine.specs.Phases.{ArePhases, phases_left}
use Rattle.joint_machine.specs.Told.{Noted}
use Rattle.known_laws.specs.Facts.{opened_of}
use Rattle.known_laws.specs.Growing.{Kept, all_shown}
use Rattle.known_laws.specs.PastEntries.{entries}
use Rattle.known_laws.specs.Lists.{made_by}
use Rattle.known_laws.specs.Pasts.{Lawful, driver_line, end_of, line}
use Rattle.known_laws.specs.Wholes.{history_of}
use Rattle.byte_streams.specs.declared.streams.Failed.{Failed}
use Rattle.graph_listing.specs.Listing.{Listed}
use Rattle.script_laws.specs.Holding.{AreLine, Standing}
use Rattle.listing_laws.specs.Listings.{IsListedIn, states_after_snaps}
use Rattle.listing_laws.specs.Snapshots.{AreSeen, OpensNone, snaps_of}
use Rattle.listing_laws.specs.Writing.{Wrote}

abbrev pub SnapsAreTheDrivers : Type 0
SnapsAreTheDrivers = (h : Finished) → IsLinked h → snaps_of (made_by C h.entries) ≡ snaps_of h.entries

abbrev pub LinesOpenNone : Type 0
LinesOpenNone = (s : Standing) (number : ℕ) (a : Act) (es : List Entry)
    → OpensNone a s.phase → AreLine s number (C, a) es → snaps_of es ≡ []

abbrev pub LeftPhasesOpenNone : Type 0
LeftPhasesOpenNone = (n : ℕ) (phase : Phase) (es : List Entry) → ArePhases n (phases_left phase) es → snaps_of es ≡ []

-- a driver whose last entry is a snapshot has its cycle open
abbrev pub LastSnapIsOpen : Type 0
LastSnapIsOpen = (past : List Noted) (before : List Entry) (e : Entry) (k : Cycle)
    → Lawful past → entries (line driver_line past) ≡ before ++ e ∷ []
    → e.made.op ≡ op.Snap k → opened_of (end_of past).control.stand ≡ Some record { cycle = k.0; snap = e.number }

abbrev pub SeenStaysSeen : Type 0
SeenStaysSeen = (lines more : ℕ → List Kept) (snaps : List Entry) (cycles : List Listed)
    → ((i : ℕ) → IsPrefix (lines i) (more i))
    → AreSeen lines snaps cycles → AreSeen more snaps cycles

-- the states that the snapshots of a history leave are one, whatever notes link it
abbrev pub StatesAreOne : Type 0
StatesAreOne = (h : Finished) (a b : List Noted) → IsLinkedBy h a → IsLinkedBy h b
    → states_after_snaps opening_linkage a ≡ states_after_snaps opening_linkage b

-- what was listed of all snapshots by beginnings of a past, when each was made, is listed of the history which that
-- past's notes link
abbrev pub SeenIsListed : Type 0
SeenIsListed = (h : Finished) (past : List Noted) (cycles : List Listed) → Lawful past → IsLinkedBy h (history_of past)
    → AreSeen (λ i. all_shown (line i past)) (snaps_of h.entries) cycles → IsListedIn h cycles

abbrev pub WritingGoesOn : Type 0
WritingGoesOn = (a b c : ℕ) (r s t : Result (Unit {0}) Failed)
    (held mid now : Option (List ℕ)) (f g h : ℕ) (cs ds : List Listed)
    → Wrote a b r s held mid f g cs → Wrote b c s t mid now g h ds → Wrote a c r t held now f h (cs ++ ds)
