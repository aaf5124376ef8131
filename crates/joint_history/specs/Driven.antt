-- What the driver's seat knows, and what the driver's calls under the managed lock do: each makes one entry, after
-- which the driver stands where the definition puts it.
use Rattle.std.specs.Prelude.{◌≡◌, ℕ, ◌+◌, ◌≤◌, Bool, List, [], ◌∷◌, ◌++◌, length, Option, Some, None}
use mathlib.Core.List.{IsPrefix}
use Rattle.joint_machine.specs.declared.names.Thread.TheVariants.{C}
use Rattle.joint_machine.specs.declared.names.Phase.{Phase}
use Rattle.joint_machine.specs.declared.names.Phase.TheVariants as at
use Rattle.joint_machine.specs.declared.names.PhaseWord.{PhaseWord}
use Rattle.joint_machine.specs.declared.names.Span.{Span}
use Rattle.joint_machine.specs.declared.lines.Act.TheVariants as act
use Rattle.joint_machine.specs.declared.events.Entry.{Entry}
use Rattle.joint_machine.specs.declared.events.Op.{Op}
use Rattle.joint_machine.specs.declared.events.Op.TheVariants as op
use Rattle.joint_machine.specs.declared.events.Reply.{Reply}
use Rattle.joint_machine.specs.declared.events.Reply.TheVariants as says
use Rattle.joint_machine.specs.Control.{OpenSnap, Stand, idle, snapped, contracted, weakening, restored, last_line}
use Rattle.joint_machine.specs.Control.{IsPhaseOf, IsAtRest}
use Rattle.joint_machine.specs.Cycles.{IsDeadContraction}
use Rattle.joint_machine.specs.Draws.{numbered}
use Rattle.joint_machine.specs.HistoryLines.{caller_line}
use Rattle.joint_machine.specs.Linked.{Linkage}
use Rattle.joint_machine.specs.Managed.{Managed, OpenCycle, candidates_of}
use Rattle.joint_machine.specs.ManagedReplay.{refusal_to}
use Rattle.joint_machine.specs.Phases.{next_phase}
use Rattle.joint_machine.specs.Told.{Told, Noted, Answer, nothing, contraction_of, resolution_of, phase_of}
use Rattle.known_laws.specs.Driving.{PastInvariant}
use Rattle.known_laws.specs.Known.{SideMayCome}
use Rattle.known_laws.specs.Pasts.{HasSameDeadPart, end_of}
use Rattle.order_table.specs.declared.views.View.{View}
use Rattle.order_table.specs.Rule.{IsBelow}
use Rattle.order_table.specs.Views.{known}
use Rattle.joint_history.specs.Knowing.{line_known, note_of}
use Rattle.view_laws.specs.Knowing.{IsDrawnView}
use Rattle.joint_history.specs.Locked.{made_by}

-- at the end of a past the driver stands so: the line of its last entry isn't above this one, it has come so far, and
-- the open cycle and its dead part are those of these managed objects
pub record IsDriverAt (past : List Noted) (index : ℕ) (stand : Stand) (seen : Managed) : Type 0 where
  pub last : last_line (end_of past).control C ≤ index
  pub come : (end_of past).control.stand ≡ stand
  pub dead : HasSameDeadPart seen (end_of past).managed.managed

-- so it is by what a seat knows
pub record DriverStands (v : View) (index : ℕ) (stand : Stand) (seen : Managed) : Type 0 where
  pub known : IsDrawnView v
  pub stands : IsDriverAt known.known.past index stand seen

-- a seat that knows more has the driver where it stood
abbrev pub StillStands : View → View → Type 0
StillStands old new = (index : ℕ) (stand : Stand) (seen : Managed)
    → DriverStands old index stand seen → DriverStands new index stand seen

-- the driver is idle
pub record DriverRests (v : View) (index : ℕ) : Type 0 where
  pub seen : Managed
  pub stands : DriverStands v index idle seen

-- the driver made an entry: its seat knows all that it knew, and that entry as its last, whose number is above all that
-- it knew; and the entry may come after a state in which the driver stood where its seat had it, with the same dead
-- part, and which has all that every known past keeps
pub record DriverMakes (old new : View) (stand : Stand) (seen : Managed) (e : Entry) (told : Told) : Type 0 where
  pub own : line_known new (caller_line C) ≡ line_known old (caller_line C) ++ e ∷ []
  pub more : (i : ℕ) → IsPrefix (known old i) (known new i)
  pub above : (i : ℕ) → IsBelow e.number (known old i)
  pub state : Linkage
  pub comes : SideMayCome state (note_of e told)
  pub kept : PastInvariant state
  pub stood : state.control.stand ≡ stand
  pub dead : HasSameDeadPart seen state.managed.managed

-- the driver made no entry: its seat knows all that it knew, and the driver stands where it stood
pub record DriverMakesNone (old new : View) : Type 0 where
  pub own : line_known new (caller_line C) ≡ line_known old (caller_line C)
  pub more : (i : ℕ) → IsPrefix (known old i) (known new i)
  pub stands : StillStands old new

-- an entry of the driver
abbrev pub driver_entry : ℕ → ℕ → Op → Reply → Option ℕ → Entry
driver_entry n index o reply cites = numbered n (made_by C index o reply cites)

-- these are the components, heavy classes and cross-references of the dead part's contraction, and their numbers; heavy
-- classes count as components
pub record HasContraction (seen : Managed) (sccs xrefs : ℕ)
    (comps : List (List ℕ)) (heavy : List ℕ) (pairs : List (ℕ × ℕ)) : Type 0 where
  pub exact : (c : OpenCycle) → seen.cycle ≡ Some c → IsDeadContraction seen c.dead comps heavy pairs
  pub components : sccs ≡ length comps + length heavy
  pub references : xrefs ≡ length pairs

-- the driver has taken the snapshot, and these are the numbers of its dead part's components, heavy classes counted in,
-- and cross-references
pub record MayContractCycle (v : View) (index sccs xrefs : ℕ) : Type 0 where
  pub opened : OpenSnap
  pub seen : Managed
  pub comps : List (List ℕ)
  pub heavy : List ℕ
  pub pairs : List (ℕ × ℕ)
  pub stands : DriverStands v index (snapped opened) seen
  pub contraction : HasContraction seen sccs xrefs comps heavy pairs

-- the driver made the contraction of its cycle, and stands there with the same dead part
abbrev pub MakesContraction : View → View → ℕ → ℕ → ℕ → ℕ → Type 0
MakesContraction old new index sccs xrefs n = (o : OpenSnap) (m : Managed) (comps : List (List ℕ)) (heavy : List ℕ)
    (pairs : List (ℕ × ℕ)) → DriverStands old index (snapped o) m → HasContraction m sccs xrefs comps heavy pairs
    → DriverMakes old new (snapped o) m
    (driver_entry n index (op.Contract record { 0 = o.cycle }) (says.Sccs sccs xrefs) None)
    (contraction_of comps heavy pairs) × DriverStands new index (contracted o comps heavy pairs) m

-- the driver's cycle is open, and not yet mirrored
abbrev pub IsUnmirrored : Stand → OpenSnap → Type 0
IsUnmirrored (snapped o) p = o ≡ p
IsUnmirrored (contracted o comps heavy pairs) p = o ≡ p
IsUnmirrored _ p = ⊥

-- so it is by what the driver's seat knows
pub record MayAbandonCycle (v : View) (index : ℕ) : Type 0 where
  pub opened : OpenSnap
  pub stand : Stand
  pub seen : Managed
  pub stands : DriverStands v index stand seen
  pub unmirrored : IsUnmirrored stand opened

-- the driver abandoned its cycle, and is idle
abbrev pub MakesAbandon : View → View → ℕ → ℕ → Type 0
MakesAbandon old new index n = (o : OpenSnap) (stand : Stand) (m : Managed)
    → DriverStands old index stand m → IsUnmirrored stand o
    → DriverMakes old new stand m (driver_entry n index (op.Abandon record { 0 = o.cycle }) says.Ok None) nothing
    × DriverRests new index

-- all handles of the driver's cycle are restored, with these answers, and the references cleared by the entry with that
-- number
pub record MayResolveCycle (v : View) (index clear : ℕ) (answers : List Answer) : Type 0 where
  pub opened : OpenSnap
  pub seen : Managed
  pub stands : DriverStands v index (restored opened answers clear) seen

-- the driver resolved its cycle: so many objects were freed, whose place among the freed ones is this; and it is idle
pub record ResolvesCycle (old new : View) (index clear n : ℕ)
    (answers : List Answer) (span : Span) (o : OpenSnap) (m : Managed) : Type 0 where
  pub freed : List ℕ
  pub count : span.count ≡ length freed
  pub makes : DriverMakes old new (restored o answers clear) m
      (driver_entry n index (op.Resolve record { 0 = o.cycle }) (says.Freed span) (Some clear))
      (resolution_of answers freed)
  pub rests : DriverRests new index

abbrev pub MakesResolution : View → View → ℕ → ℕ → ℕ → List Answer → Span → Type 0
MakesResolution old new index clear n answers span = (o : OpenSnap) (m : Managed)
    → DriverStands old index (restored o answers clear) m → ResolvesCycle old new index clear n answers span o m

-- the driver is in that phase, in which the word is refused
pub record MayRefuseWord (v : View) (index : ℕ) (w : PhaseWord) (phase : Phase) : Type 0 where
  pub stand : Stand
  pub seen : Managed
  pub stands : DriverStands v index stand seen
  pub in_phase : IsPhaseOf stand (length (candidates_of seen)) phase
  pub refused : next_phase phase w ≡ None

-- where the driver stands after a refusal in that phase: where it stood, but that in the weakened phase it may be seen
-- now that it has come to it
abbrev pub IsStillAt : Stand → Phase → Stand → Type 0
IsStillAt (weakening o count weakened swept) at.Weakened next = (seen : Bool) × (next ≡ weakening o count seen swept)
IsStillAt stand phase next = next ≡ stand

-- the driver's word was refused
pub record RefusesWord (old new : View) (index n : ℕ) (w : PhaseWord)
    (phase : Phase) (reply : Reply) (stand : Stand) (m : Managed) : Type 0 where
  pub makes : DriverMakes old new stand m (driver_entry n index (op.Refused w) reply None) (phase_of phase)
  pub answers : reply ≡ refusal_to m phase w
  pub next : Stand
  pub still : IsStillAt stand phase next
  pub stands : DriverStands new index next m

abbrev pub MakesRefusal : View → View → ℕ → ℕ → PhaseWord → Phase → Reply → Type 0
MakesRefusal old new index n w phase reply = (stand : Stand) (m : Managed) → DriverStands old index stand m
    → IsPhaseOf stand (length (candidates_of m)) phase → RefusesWord old new index n w phase reply stand m

-- no phase of the driver is half done
pub record MayFinalise (v : View) (index : ℕ) : Type 0 where
  pub stand : Stand
  pub seen : Managed
  pub stands : DriverStands v index stand seen
  pub rests : IsAtRest stand (length (candidates_of seen))

-- the driver took notices, and stands where it stood
abbrev pub MakesFinalise : View → View → ℕ → ℕ → ℕ → Reply → Type 0
MakesFinalise old new index n count reply = (stand : Stand) (m : Managed)
    → DriverStands old index stand m → IsAtRest stand (length (candidates_of m))
    → DriverMakes old new stand m (driver_entry n index (op.Line (act.Finalise count)) reply None) nothing
    × DriverStands new index stand m
