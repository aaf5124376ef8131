-- What is kept of callers is what the control of a linked history has, as far as turns and citations go.
use Rattle.std.specs.Prelude.{◌≡◌, ℕ, ◌<◌, ◌^◌, ◌↔◌, length, map, Some, is_some}
use Rattle.joint_machine.specs.declared.names.HNum.{HNum}
use Rattle.joint_machine.specs.declared.names.Phase.{Phase}
use Rattle.joint_machine.specs.declared.names.Thread.{Thread}
use Rattle.joint_machine.specs.declared.events.Made.{Made}
use Rattle.joint_machine.specs.declared.events.Op.{Op}
use Rattle.joint_machine.specs.declared.events.Op.TheVariants as op
use Rattle.joint_machine.specs.declared.events.Reply.{Reply}
use Rattle.joint_machine.specs.Control as control
use Rattle.joint_machine.specs.Control.{Control, control_after, IsCandidateHandle}
use Rattle.joint_machine.specs.Linked.{Linkage, IsWhole}
use Rattle.joint_machine.specs.Managed.{candidates_of}
use Rattle.joint_machine.specs.Told.{Told, contraction_of, phase_of}
use Rattle.check_laws.specs.Order.{IsTurn, CitesSo}
use Rattle.caller_turns.specs.declared.stands.Doing.{Doing}
use Rattle.caller_turns.specs.declared.stands.Doing.TheVariants as doing
use Rattle.caller_turns.specs.declared.stands.OpenSnap.{OpenSnap}
use Rattle.caller_turns.specs.declared.stands.Part.{Part}
use Rattle.caller_turns.specs.declared.stands.Stand.{Stand}
use Rattle.caller_turns.specs.declared.stands.Stand.TheVariants as stand
use Rattle.caller_turns.specs.Turns.{Callers, IsTheirTurn, CitesIn, AreDone, callers_after}

-- the half of an operation as it is kept
abbrev pub hand_of : control.Doing → Doing
hand_of control.free = doing.Free
hand_of (control.made n line p h sort f) = doing.Made n line record { 0 = p } record { 0 = h } sort f
hand_of (control.lent n line h x) = doing.Lent n line record { 0 = h } record { 0 = x }
hand_of (control.gripped n line p h sort f) = doing.Gripped n line record { 0 = p } record { 0 = h } sort f
hand_of (control.given n line h) = doing.Given n line record { 0 = h }
hand_of (control.met n line h) = doing.Met n line record { 0 = h }

-- where the driver stands, without the lists
abbrev pub open_of : control.OpenSnap → OpenSnap
open_of o = record { cycle = record { 0 = o.cycle }; snap = o.snap }

abbrev pub stand_of : control.Stand → Stand
stand_of control.idle = stand.Idle
stand_of (control.snapped o) = stand.Snapped (open_of o)
stand_of (control.contracted o comps heavy xrefs) = stand.Contracted (open_of o)
stand_of (control.weakening o count weakened swept) = stand.Weakening (open_of o) count weakened swept
stand_of (control.marked o) = stand.Marked (open_of o)
stand_of (control.restoring o answers) = stand.Restoring (open_of o) (length answers)
stand_of (control.restored o answers clear) = stand.Restored (open_of o) clear

abbrev pub callers_of : Control → Callers
callers_of k = record { hands = map hand_of k.doing; lines = k.lines; stand = stand_of k.stand }

-- the place of the candidate that is next to be weakened or restored; 0 where none is
abbrev pub next_place : control.Stand → ℕ
next_place (control.weakening o count weakened swept) = count
next_place (control.restoring o answers) = length answers
next_place _ = 0

-- what is given of the open cycle is what the sides have
pub record IsPartOf (s : Linkage) (part : Part) : Type 0 where
  pub candidates : part.candidates ≡ length (candidates_of s.managed.managed)
  pub next : (h : HNum) → (part.next ≡ Some h) ↔ IsCandidateHandle s.managed.managed (next_place s.control.stand) h.0
  pub marking : part.marking ≡ is_some s.peer.marking

-- the tests are the first two of an entry
abbrev pub TurnsAreTested : Type 0
TurnsAreTested = (s : Linkage) (part : Part) (m : Made) → IsPartOf s part → m.index < 2 ^ 32
    → IsTheirTurn (callers_of s.control) part m.caller m.index m.op ↔ IsTurn s m

abbrev pub CitesAreTested : Type 0
CitesAreTested = (s : Linkage) (m : Made) → CitesIn (callers_of s.control) m.caller m.op m.cites ↔ CitesSo s m

-- a contraction is told with a contract, and the phase with a refusal
abbrev pub TellsPhase : Op → Told → Phase → Type 0
TellsPhase (op.Contract k) (contraction_of comps heavy xrefs) phase = Unit {0}
TellsPhase (op.Contract k) told phase = ⊥
TellsPhase (op.Refused w) told phase = told ≡ phase_of phase
TellsPhase _ told phase = Unit {0}

-- and what is kept after an entry is what the control has after it
abbrev pub CallersGoOn : Type 0
CallersGoOn = (k : Control) (n : ℕ) (t : Thread) (l : ℕ) (o : Op) (reply : Reply) (told : Told) (phase : Phase)
    → TellsPhase o told phase
    → callers_after (callers_of k) n t l o reply phase ≡ callers_of (control_after k t n l o reply told)

-- nothing has to follow by what is kept exactly where nothing has to in the state
abbrev pub WholeIsTested : Type 0
WholeIsTested = (s : Linkage) (candidates : ℕ) → candidates ≡ length (candidates_of s.managed.managed)
    → AreDone (callers_of s.control) candidates ↔ IsWhole s
