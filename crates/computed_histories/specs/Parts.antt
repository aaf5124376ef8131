-- The tests of the parts of an entry tell exactly what the definitions say: what is reached and freed, and what each
-- event asks for.
use Rattle.std.specs.Prelude.{ℕ, ◌↔◌, IsTrue, List, Option}
use Rattle.joint_machine.specs.declared.names.Thread.{Thread}
use Rattle.joint_machine.specs.declared.events.Op.{Op}
use Rattle.joint_machine.specs.declared.events.Reply.{Reply}
use Rattle.joint_machine.specs.Control.{Control, CallerAllows}
use Rattle.joint_machine.specs.Cycles.{IsSnapshot, IsResolution, IsAnsweredAlive, IsDeadContraction}
use Rattle.joint_machine.specs.Lines.{IsEvent}
use Rattle.joint_machine.specs.Managed.{Managed}
use Rattle.joint_machine.specs.ManagedReplay.{ManagedReplay, ManagedAllows}
use Rattle.joint_machine.specs.PeerReplay.{PeerReplay, Marking, IsClosure, IsSweep, PeerAllows}
use Rattle.joint_machine.specs.Peers.{Issued}
use Rattle.joint_machine.specs.Told.{Told, Answer}
use Rattle.computed_histories.specs.Callers.{caller_allows}
use Rattle.computed_histories.specs.Contractions.{is_contraction, dead_graph}
use Rattle.computed_histories.specs.Lines.{is_event}
use Rattle.computed_histories.specs.Markings.{is_closure, is_sweep}
use Rattle.computed_histories.specs.Rows.{is_snapshot, is_resolution, answered_alive}
use Rattle.computed_histories.specs.Sides.{managed_allows, peer_allows}

-- what a snapshot frees and leaves, what a resolution frees, and the components of a dead part
abbrev pub SnapshotIsTested : Type 0
SnapshotIsTested = (s : Managed) (k : ℕ) (freed candidates dead : List ℕ)
    → IsTrue (is_snapshot s k freed candidates dead) ↔ IsSnapshot s k freed candidates dead

abbrev pub ResolutionIsTested : Type 0
ResolutionIsTested = (s : Managed) (dead candidates : List ℕ) (answers : List Answer) (freed : List ℕ)
    → IsTrue (is_resolution s dead (answered_alive candidates answers) freed)
    ↔ IsResolution s dead (IsAnsweredAlive candidates answers) freed

abbrev pub ContractionIsTested : Type 0
ContractionIsTested = (s : Managed) (dead : List ℕ) (comps : List (List ℕ)) (heavy : List ℕ) (xrefs : List (ℕ × ℕ))
    → IsTrue (is_contraction (dead_graph s dead) comps heavy xrefs) ↔ IsDeadContraction s dead comps heavy xrefs

-- a slice's closure, and what a sweep frees
abbrev pub ClosureIsTested : Type 0
ClosureIsTested = (mk : Marking) (closure : List ℕ) → IsTrue (is_closure mk closure) ↔ IsClosure mk closure

abbrev pub SweepIsTested : Type 0
SweepIsTested = (s : PeerReplay) (mk : Marking) (freed : List ℕ) → IsTrue (is_sweep s mk freed) ↔ IsSweep s mk freed

-- which events there are, what each asks for of its own side, and its caller's order
abbrev pub EventIsTested : Type 0
EventIsTested = (t : Thread) (o : Op) → IsTrue (is_event t o) ↔ IsEvent t o

abbrev pub ManagedIsTested : Type 0
ManagedIsTested = (s : ManagedReplay) (o : Op) (told : Told) → IsTrue (managed_allows s o told) ↔ ManagedAllows s o told

abbrev pub PeerIsTested : Type 0
PeerIsTested = (s : PeerReplay) (t : Thread) (o : Op) (cites : Option ℕ) (told : Told)
    → IsTrue (peer_allows s t o cites told) ↔ PeerAllows s t o cites told

abbrev pub CallerIsTested : Type 0
CallerIsTested = (s : Control) (managed : Managed) (issued : List Issued)
    (t : Thread) (line : ℕ) (o : Op) (reply : Reply) (cites : Option ℕ) (told : Told)
    → IsTrue (caller_allows s managed issued t line o reply cites told)
    ↔ CallerAllows s managed issued t line o reply cites told
