-- Which lines of the driver make a snapshot, and what a seat has of one that it knows: lines in which the snapshot's
-- cycle is open, and what is listed of them.
use Rattle.std.specs.Prelude.{◌≡◌, ℕ, filter, List, [], ◌∷◌, Some}
use mathlib.Core.List.{IsPrefix}
use Rattle.joint_machine.specs.declared.names.Phase.{Phase}
use Rattle.joint_machine.specs.declared.names.Phase.TheVariants as at
use Rattle.joint_machine.specs.declared.names.PhaseWord.TheVariants as word
use Rattle.joint_machine.specs.declared.lines.Act.{Act}
use Rattle.joint_machine.specs.declared.lines.Act.TheVariants as act
use Rattle.joint_machine.specs.declared.events.Entry.{Entry}
use Rattle.joint_machine.specs.declared.events.Op.TheVariants as op
use Rattle.joint_machine.specs.Managed.{OpenCycle}
use Rattle.known_laws.specs.Facts.{opened_of}
use Rattle.known_laws.specs.Growing.{AreKnown, Kept}
use Rattle.known_laws.specs.Pasts.{end_of}
use Rattle.graph_listing.specs.Listing.{Listed}
use Rattle.listing_laws.specs.Listings.{ListsDeadPart, is_snap}

-- the snapshots among entries, in order
abbrev pub snaps_of : List Entry → List Entry
snaps_of es = filter (λ e. is_snap e.made.op) es

-- a line of the driver opens no cycle in that phase
abbrev pub OpensNone : Act → Phase → Type 0
OpensNone (act.PhaseLine word.Snap) at.Idle = ⊥
OpensNone (act.PhaseLine word.Cycle) at.Idle = ⊥
OpensNone a phase = Unit {0}

-- some beginnings of these lines are known, at whose end the driver has the snapshot's cycle open; what is listed is
-- the contraction of the dead part there
pub record IsSeenAt (lines : ℕ → List Kept) (e : Entry) (c : Listed) : Type 0 where
  pub event : e.made.op ≡ op.Snap record { 0 = c.cycle }
  pub seen : ℕ → List Kept
  pub begin : (i : ℕ) → IsPrefix (seen i) (lines i)
  pub known : AreKnown seen
  pub driven : opened_of (end_of known.past).control.stand ≡ Some record { cycle = c.cycle; snap = e.number }
  pub cycle : OpenCycle
  pub open_cycle : (end_of known.past).managed.managed.cycle ≡ Some cycle
  pub lists : ListsDeadPart (end_of known.past).managed.managed cycle.dead c

-- of each of these snapshots, in order
abbrev pub AreSeen : (ℕ → List Kept) → List Entry → List Listed → Type 0
AreSeen lines [] [] = Unit {0}
AreSeen lines [] (c ∷ cs) = ⊥
AreSeen lines (e ∷ es) [] = ⊥
AreSeen lines (e ∷ es) (c ∷ cs) = IsSeenAt lines e c × AreSeen lines es cs
