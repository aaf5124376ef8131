-- What a run lists as it goes on: of each snapshot that the driver makes, what the driver knows of its cycle's dead
-- part then.
use Rattle.std.specs.Prelude.{◌≡◌, ℕ, ◌≤◌, List, [], ◌∷◌, ◌++◌, length, Option, Some, Result, IfOk}
use Rattle.joint_machine.specs.declared.names.Phase.{Phase}
use Rattle.joint_machine.specs.declared.names.Phase.TheVariants as at
use Rattle.joint_machine.specs.declared.names.PhaseWord.TheVariants as word
use Rattle.joint_machine.specs.declared.lines.Act.{Act}
use Rattle.joint_machine.specs.declared.lines.Act.TheVariants as act
use Rattle.joint_machine.specs.declared.events.Entry.{Entry}
use Rattle.joint_machine.specs.Managed.{OpenCycle}
use Rattle.known_laws.specs.Drawn.{of_drawn}
use Rattle.known_laws.specs.Growing.{Kept}
use Rattle.known_laws.specs.Pasts.{end_of}
use Rattle.byte_streams.specs.Streams.{Writes}
use Rattle.graph_listing.specs.Listing.{Listed, cycles_text, listing_text}
use Rattle.order_table.specs.declared.views.View.{View}
use Rattle.view_laws.specs.Knowing.{IsDrawnView, drawn_lines}
use Rattle.joint_history.specs.Callers.{own}
use Rattle.joint_history.specs.Ending.{BeginsView}
use Rattle.bridge_cycle.specs.Progress.{Progress, pass_of}
use Rattle.listing_laws.specs.Listings.{ListsDeadPart}
use Rattle.listing_laws.specs.Snapshots.{AreSeen, snaps_of}
use Rattle.listing_laws.specs.Writing.{Wrote}
use Rattle.script_runs.specs.declared.compared.Listing.{Listing}
use Rattle.script_runs.specs.declared.compared.Opening.{Opening}
use Rattle.script_runs.specs.declared.compared.Opening.TheVariants as opens

-- whether a line of the driver opens a cycle in a phase, and ends it too
abbrev pub opening_of : Act → Phase → Opening
opening_of (act.PhaseLine word.Snap) at.Idle = opens.Snap
opening_of (act.PhaseLine word.Cycle) at.Idle = opens.Cycle
opening_of a phase = opens.Other

-- a call listed cycles, of which that holds if it found memory
pub record Lists {T E : Type 0} (result : Result T E) (old new : Listing)
    (held now : Option (List ℕ)) (before after : ℕ) (P : T → List Listed → Type 0) : Type 0 where
  pub cycles : List Listed
  pub wrote : Wrote old.cycles new.cycles old.written new.written held now before after cycles
  pub listed : IfOk result (λ r. P r cycles)

-- the lines that a view knows, with the pins that were told
abbrev pub lines_seen : View → ℕ → List Kept
lines_seen v i = of_drawn (drawn_lines v i)

-- what is listed of the driver's open cycle: the contraction of its dead part, by what the driver knows
pub record ListsOne (d : Progress) (cycles : List Listed) : Type 0 where
  pub one : Listed
  pub only : cycles ≡ one ∷ []
  pub number : d.cycle.0 ≡ one.cycle
  pub known : IsDrawnView d.view
  pub cycle : OpenCycle
  pub open_cycle : (end_of known.known.past).managed.managed.cycle ≡ Some cycle
  pub lists : ListsDeadPart (end_of known.known.past).managed.managed cycle.dead one

-- the driver made these snapshots more, one at most, and the cycles are theirs
pub record ListsLine (old new : Progress) (cycles : List Listed) : Type 0 where
  pub snaps : List Entry
  pub all : snaps_of (own (pass_of new)) ≡ snaps_of (own (pass_of old)) ++ snaps
  pub listed : AreSeen (lines_seen new.view) snaps cycles
  pub few : length cycles ≤ 1
  pub knew : BeginsView old.view new.view

-- the driver has made no snapshot
abbrev pub HasNoSnap : Progress → Type 0
HasNoSnap d = snaps_of (own (pass_of d)) ≡ []

-- the cycles are those of all of the driver's snapshots
abbrev pub AreAllListed : Progress → List Listed → Type 0
AreAllListed d cycles = AreSeen (lines_seen d.view) (snaps_of (own (pass_of d))) cycles

-- the last line of a listing of so many cycles was written behind the lines of as many: all of it, or a beginning, or
-- nothing where the sink had failed before
abbrev pub EndsListing : {E : Type 0} → ℕ → Option (List ℕ) → Option (List ℕ)
    → ℕ → ℕ → Result (Unit {0}) E → Result (Unit {0}) E → Type 0
EndsListing count held now before after written result = (start : Option (List ℕ)) (first : ℕ) (cycles : List Listed)
    → count ≡ length cycles → Writes start held first before written (cycles_text cycles)
    → Writes start now first after result (listing_text cycles)
