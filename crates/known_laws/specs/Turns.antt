-- Whose turn it is: which event of a caller may come next, with what it cites, by what a thread has in hand or where
-- the driver stands. An entry that a side's list allows, in its caller's turn, may come next.
use Rattle.known_laws.specs.Known.{Comes, PinsStand}
use Rattle.std.specs.Prelude.{◌≡◌, ◌⊎◌, ℕ, ◌<◌, ◌≤◌, ◌^◌, Bool, true, false, List, length, Option, Some, None}
use Rattle.joint_machine.specs.declared.names.Thread.TheVariants.{M}
use Rattle.joint_machine.specs.declared.names.Cycle.{Cycle}
use Rattle.joint_machine.specs.declared.names.HNum.{HNum}
use Rattle.joint_machine.specs.declared.names.PNum.{PNum}
use Rattle.joint_machine.specs.declared.names.StaticNo.{StaticNo}
use Rattle.joint_machine.specs.declared.names.Var.{Var}
use Rattle.joint_machine.specs.declared.names.Kind.{Kind}
use Rattle.joint_machine.specs.declared.names.Sort.{Sort}
use Rattle.joint_machine.specs.declared.names.Phase.{Phase}
use Rattle.joint_machine.specs.declared.names.PhaseWord.{PhaseWord}
use Rattle.joint_machine.specs.declared.names.Marking.{Marking}
use Rattle.joint_machine.specs.declared.lines.Act.TheVariants as act
use Rattle.joint_machine.specs.declared.events.Op.{Op}
use Rattle.joint_machine.specs.declared.events.Op.TheVariants as op
use Rattle.joint_machine.specs.declared.events.Reply.{Reply}
use Rattle.joint_machine.specs.declared.events.Reply.TheVariants as says
use Rattle.joint_machine.specs.declared.events.Made.{Made}
use Rattle.joint_machine.specs.Components.{mirror_edges}
use Rattle.joint_machine.specs.Control.{OpenSnap, made, lent, gripped, given, met, idle, snapped, contracted, weakening}
use Rattle.joint_machine.specs.Control.{marked, restoring, restored, doing_at, last_line, carried_edges}
use Rattle.joint_machine.specs.Control.{IsCandidateHandle, IsPhaseOf, IsAtRest, IsDone, ThreadAllows}
use Rattle.joint_machine.specs.Control.{DriverAllows, CallerAllows}
use Rattle.joint_machine.specs.Managed.{candidates_of}
use Rattle.joint_machine.specs.Lines.{IsLine, IsEvent, is_read}
use Rattle.joint_machine.specs.Linked.{Linkage}
use Rattle.joint_machine.specs.Run.{thread_number}
use Rattle.joint_machine.specs.Sides.{managed_rules, peer_rules}
use Rattle.joint_machine.specs.Told.{Told, nothing, Answer, references_of, resolution_of, phase_of}
use Rattle.joint_machine.specs.PinsTold.{bare_told, pins_told}

-- what a side promises of an entry that it makes, in its caller's turn, is all that is asked of it, where the pins that
-- are told stand; its line isn't below the caller's last
abbrev pub SideEntryComes : Type 0
SideEntryComes = (s : Linkage) (number : ℕ) (m : Made) (told : Told)
    → last_line s.control m.caller ≤ m.index → m.index < 2 ^ 32
    → CallerAllows s.control s.managed.managed s.peer.peers.issued m.caller m.index m.op m.reply m.cites
    (bare_told told) → PinsStand s.managed.managed (pins_told told)
    → managed_rules.lawful s.managed m told ⊎ peer_rules.lawful s.peer m told
    → Comes (is_read m.op) s (record { entry = record { number = number; made = m }; told = told })

-- and of a reader's entry its turn is asked for alone
abbrev pub ReaderEntryComes : Type 0
ReaderEntryComes = (s : Linkage) (number : ℕ) (m : Made) → IsEvent m.caller m.op
    → is_read m.op ≡ true → last_line s.control m.caller ≤ m.index → m.index < 2 ^ 32
    → IsDone (doing_at s.control (thread_number m.caller)) → m.cites ≡ None
    → Comes (is_read m.op) s (record { entry = record { number = number; made = m }; told = nothing })

-- it is the thread's turn to make the event on that line, or the driver's
abbrev pub ThreadTurn : Linkage → ℕ → ℕ → Op → Option ℕ → Type 0
ThreadTurn s t line o cites = ThreadAllows (doing_at s.control t) (M t) line o cites

abbrev pub DriverTurn : Linkage → Op → Reply → Option ℕ → Told → Type 0
DriverTurn s o reply cites told = DriverAllows s.control.stand s.managed.managed s.peer.peers.issued o reply cites told

-- the event is the first of an operation
abbrev pub OpensOperation : Op → Type 0
OpensOperation (op.Adopt v kind k p h) = ⊥
OpensOperation (op.Land h x) = ⊥
OpensOperation (op.Meet v sort k p h) = ⊥
OpensOperation (op.Release h) = ⊥
OpensOperation _ = Unit {0}

-- a thread may begin an operation unless a handle waits for its release, and goes on with the later event of the one it
-- is in
pub record AreThreadTurns (s : Linkage) (t : ℕ) : Type 0 where
  pub start : (line : ℕ) (o : Op) → OpensOperation o → IsDone (doing_at s.control t) → ThreadTurn s t line o None
  pub adopt : (n line : ℕ) (p : PNum) (h : HNum) (sort : Sort) (f : ℕ) (v : Var) (kind : Kind) (k : ℕ)
      → doing_at s.control t ≡ made n line p.0 h.0 sort f → IsLine (M t) (act.Bridge v kind k sort f)
      → ThreadTurn s t line (op.Adopt v kind k p h) (Some n)
  pub land : (n line : ℕ) (h : HNum) (x : StaticNo)
      → doing_at s.control t ≡ lent n line h.0 x.0 → ThreadTurn s t line (op.Land h x) (Some n)
  pub meet : (n line : ℕ) (p : PNum) (h : HNum) (sort : Sort) (f : ℕ) (v : Var)
      → doing_at s.control t ≡ gripped n line p.0 h.0 sort f → ThreadTurn s t line (op.Meet v sort f p h) (Some n)
  pub release_given : (n line : ℕ) (h : HNum) → doing_at s.control t ≡ given n line h.0
      → ThreadTurn s t line (op.Release h) (Some n)
  pub release_met : (n line : ℕ) (h : HNum) → doing_at s.control t ≡ met n line h.0
      → ThreadTurn s t line (op.Release h) (Some n)

abbrev pub ThreadsHaveTurns : Type 0
ThreadsHaveTurns = (s : Linkage) (t : ℕ) → AreThreadTurns s t

-- the driver's events by where it stands
pub record AreDriverTurns (s : Linkage) : Type 0 where
  pub snap : (k : Cycle) (reply : Reply) (told : Told)
      → s.control.stand ≡ idle → DriverTurn s (op.Snap k) reply None told
  pub contract : (o : OpenSnap) (reply : Reply) (told : Told) → s.control.stand ≡ snapped o
      → DriverTurn s (op.Contract record { 0 = o.cycle }) reply None told
  pub mirror : (o : OpenSnap) (comps : List (List ℕ)) (heavy : List ℕ) (xrefs : List (ℕ × ℕ)) (reply : Reply)
      → s.control.stand ≡ contracted o comps heavy xrefs
      → DriverTurn s (op.Mirror record { 0 = o.cycle }) reply (Some o.snap)
      (references_of (carried_edges s.managed.managed s.peer.peers.issued (mirror_edges comps xrefs)))
  pub weaken : (o : OpenSnap) (count : ℕ) (weakened : Bool) (h : HNum) (reply : Reply) (told : Told)
      → s.control.stand ≡ weakening o count weakened false → IsCandidateHandle s.managed.managed count h.0
      → DriverTurn s (op.Weaken h) reply (Some o.snap) told
  pub mark_sweep : (o : OpenSnap) (weakened : Bool) (reply : Reply) (told : Told)
      → s.control.stand ≡ weakening o (length (candidates_of s.managed.managed)) weakened false
      → DriverTurn s op.Sweep reply None told
  pub begin : (o : OpenSnap) (weakened swept : Bool) (j : Marking) (told : Told)
      → s.control.stand ≡ weakening o (length (candidates_of s.managed.managed)) weakened swept
      → DriverTurn s op.Begin (says.Mark j) None told
  pub sweep : (o : OpenSnap) (reply : Reply) (told : Told)
      → s.control.stand ≡ marked o → DriverTurn s op.Sweep reply None told
  pub restore : (o : OpenSnap) (answers : List Answer) (h : HNum) (reply : Reply) (told : Told)
      → s.control.stand ≡ restoring o answers → IsCandidateHandle s.managed.managed (length answers) h.0
      → DriverTurn s (op.Restore h) reply None told
  pub clear : (o : OpenSnap) (answers : List Answer) (reply : Reply) (told : Told)
      → s.control.stand ≡ restoring o answers → length answers ≡ length (candidates_of s.managed.managed)
      → DriverTurn s (op.Clear record { 0 = o.cycle }) reply None told
  pub resolve : (o : OpenSnap) (answers : List Answer) (clear : ℕ) (freed : List ℕ) (reply : Reply)
      → s.control.stand ≡ restored o answers clear
      → DriverTurn s (op.Resolve record { 0 = o.cycle }) reply (Some clear) (resolution_of answers freed)
  pub abandon_snapped : (o : OpenSnap) (reply : Reply) (told : Told) → s.control.stand ≡ snapped o
      → DriverTurn s (op.Abandon record { 0 = o.cycle }) reply None told
  pub abandon_contracted : (o : OpenSnap) (comps : List (List ℕ)) (heavy : List ℕ)
      (xrefs : List (ℕ × ℕ)) (reply : Reply) (told : Told) → s.control.stand ≡ contracted o comps heavy xrefs
      → DriverTurn s (op.Abandon record { 0 = o.cycle }) reply None told
  pub refused : (w : PhaseWord) (p : Phase) (reply : Reply)
      → IsPhaseOf s.control.stand (length (candidates_of s.managed.managed)) p
      → DriverTurn s (op.Refused w) reply None (phase_of p)
  pub finalise : (n : ℕ) (reply : Reply) (told : Told)
      → IsAtRest s.control.stand (length (candidates_of s.managed.managed))
      → DriverTurn s (op.Line (act.Finalise n)) reply None told

abbrev pub DriverHasTurns : Type 0
DriverHasTurns = (s : Linkage) → AreDriverTurns s
