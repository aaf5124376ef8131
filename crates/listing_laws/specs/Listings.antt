-- What is listed of a history's cycles: of each snapshot, in order, the contraction of the dead part that it leaves.
-- (SGen's bridge: the collector hands the client the strongly connected components of the dead bridge objects and their
-- cross-references.)
-- Believed: the clauses of the program's top call rest on all that stands here.
use Rattle.std.specs.Prelude.{◌≡◌, ℕ, Bool, true, false, if◌then◌else◌, List, [], ◌∷◌, length}
use Rattle.joint_machine.specs.declared.events.Op.{Op}
use Rattle.joint_machine.specs.declared.events.Op.TheVariants as op
use Rattle.joint_machine.specs.Cycles.{IsDeadContraction, IsOpen}
use Rattle.joint_machine.specs.Histories.{Finished}
use Rattle.joint_machine.specs.Linked.{Linkage, opening_linkage}
use Rattle.joint_machine.specs.LinkedHistories.{IsLinked, IsLinkedBy}
use Rattle.joint_machine.specs.Managed.{Managed, OpenCycle}
use Rattle.joint_machine.specs.Readers.{entry_after}
use Rattle.joint_machine.specs.Told.{Noted}
use Rattle.graph_listing.specs.Listing.{Listed, listing_text}

-- whether the event is a snapshot
abbrev pub is_snap : Op → Bool
is_snap (op.Snap k) = true
is_snap o = false

-- the managed states that the snapshots of a list leave, in order
abbrev pub states_after_snaps : Linkage → List Noted → List Managed
states_after_snaps s [] = []
states_after_snaps s (n ∷ ns) = if is_snap n.entry.made.op
    then (entry_after s n).managed.managed ∷ states_after_snaps (entry_after s n) ns
    else states_after_snaps (entry_after s n) ns

-- what is listed is the contraction of a dead part: the components by their members, the heavy classes by their number,
-- and the cross-references
pub record ListsDeadPart (s : Managed) (dead : List ℕ) (c : Listed) : Type 0 where
  pub heavy : List ℕ
  pub heavy_count : length heavy ≡ c.heavy
  pub contraction : IsDeadContraction s dead c.comps heavy c.pairs

-- the cycle with its number is open in a state, and what is listed is the contraction of that cycle's dead part
pub record IsListedOf (s : Managed) (c : Listed) : Type 0 where
  pub cycle : OpenCycle
  pub open_cycle : IsOpen s c.cycle cycle
  pub lists : ListsDeadPart s cycle.dead c

-- of each of these states, in order
abbrev pub AreListed : List Managed → List Listed → Type 0
AreListed [] [] = Unit {0}
AreListed [] (c ∷ cs) = ⊥
AreListed (s ∷ ss) [] = ⊥
AreListed (s ∷ ss) (c ∷ cs) = IsListedOf s c × AreListed ss cs

-- the cycles of a history: of each of its snapshots, in order, that of the state which it leaves, whatever notes link
-- the history
pub record IsListedIn (h : Finished) (cycles : List Listed) : Type 0 where
  pub linked : IsLinked h
  pub listed : (noted : List Noted) → IsLinkedBy h noted → AreListed (states_after_snaps opening_linkage noted) cycles

-- the text is the listing of a history
pub record IsListingOf (h : Finished) (text : List ℕ) : Type 0 where
  pub cycles : List Listed
  pub listed : IsListedIn h cycles
  pub text_is : text ≡ listing_text cycles
