-- What a step of the peer side may make, and which entries it makes: that of one event, or for a collect those of a
-- begin and, if that gave a number, of the sweep. (This project's own.)
use Rattle.std.specs.Prelude.{◌≡◌, ℕ, ◌⊎◌, List, [], ◌∷◌, length, drop, Option, None, IsSome}
use Rattle.joint_machine.specs.declared.names.Marking.{Marking as Number}
use Rattle.joint_machine.specs.declared.names.Thread.{Thread}
use Rattle.joint_machine.specs.declared.lines.Act.TheVariants as act
use Rattle.joint_machine.specs.declared.events.Made.{Made}
use Rattle.joint_machine.specs.declared.events.Op.{Op}
use Rattle.joint_machine.specs.declared.events.Op.TheVariants as op
use Rattle.joint_machine.specs.declared.events.Reply.{Reply}
use Rattle.joint_machine.specs.declared.events.Reply.TheVariants as says
use Rattle.joint_machine.specs.Heaps.{answer}
use Rattle.joint_machine.specs.Lines.{IsPeerThread, IsDriver}
use Rattle.joint_machine.specs.PeerReplay.{PeerReplay, PeerAllows, peer_answer}
use Rattle.joint_machine.specs.Draws.{Drawing}
use Rattle.joint_machine.specs.Sides.{Side, Making, AddsInTurn, MayDraw, peer_rules, step_made}
use Rattle.joint_machine.specs.Told.{Told, nothing, sweep_of}
use Rattle.peer_heap.specs.Sides.{PeerModel, begins, seen}
use Rattle.peer_heap.specs.Steps.{IsPeerStep}

-- a caller and an operation that a step makes
abbrev pub IsSideStep : Thread → Op → Type 0
IsSideStep t (op.Line act.Collect) = IsPeerThread t
IsSideStep t op.Begin = IsPeerThread t ⊎ IsDriver t
IsSideStep t op.Sweep = IsPeerThread t ⊎ IsDriver t
IsSideStep t o = IsPeerStep t o

-- what a step asks of the state: the driver sweeps only where a marking is open
abbrev pub MayStep : PeerReplay → Thread → Op → Option ℕ → Type 0
MayStep s t (op.Line act.Collect) cites = cites ≡ None
MayStep s t op.Begin cites = cites ≡ None
MayStep s t op.Sweep cites = (cites ≡ None) × (IsDriver t → IsSome s.marking)
MayStep s t o cites = PeerAllows s t o cites nothing

-- what a step asks of the draw: a collect draws for a begin and for a sweep
abbrev pub MayDrawStep : {D : Type 0} → Drawing D → D → Side PeerReplay → Thread → Op → Type 0
MayDrawStep d draw s t (op.Line act.Collect) = MayDraw peer_rules d draw s t op.Begin
    × MayDraw peer_rules d draw s t op.Sweep
MayDrawStep d draw s t o = MayDraw peer_rules d draw s t o

-- the peers that were freed from one state to the other
abbrev pub gone_since : PeerReplay → PeerReplay → List ℕ
gone_since old new = drop (length old.peers.heap.freed) new.peers.heap.freed

-- what is told beside a sweep that leads from one state to the other
abbrev pub sweep_told : PeerReplay → PeerReplay → Told
sweep_told old new = sweep_of (gone_since old new)

-- what is told beside an event: the peers that it freed, where it is a sweep that was done
abbrev pub told_at : Op → Reply → List ℕ → Told
told_at op.Sweep (says.Swept j freed) gone = sweep_of gone
told_at o r gone = nothing

-- one event with its reply
abbrev pub one_making : Thread → ℕ → Op → Option ℕ → Reply → List ℕ → List Making
one_making t index o cites r gone = record {
  made = step_made t index o r cites;
  told = told_at o r gone;
} ∷ []

-- the number that a sweep's reply has
abbrev pub number_in : Reply → Number
number_in (says.Swept j freed) = j
number_in r = record { 0 = 0 }

-- a collect, by its last reply: a begin that was refused, or a begin that gave a number and the sweep of that marking
abbrev pub collect_makings : Thread → ℕ → Reply → List ℕ → List Making
collect_makings t index (says.MarkOpen j) gone = one_making t index op.Begin None (says.MarkOpen j) gone
collect_makings t index r gone = record { made = begins t index (number_in r); told = nothing } ∷
    record { made = step_made t index op.Sweep r None; told = sweep_of gone } ∷ []

-- what a step makes
abbrev pub step_makings : Thread → ℕ → Op → Option ℕ → Reply → List ℕ → List Making
step_makings t index (op.Line act.Collect) cites r gone = collect_makings t index r gone
step_makings t index o cites r gone = one_making t index o cites r gone

-- a step made its entries, by what it answered and which peers it freed
abbrev pub AddsStep : {D : Type 0} → Drawing D → D → D → PeerModel → PeerModel
    → Thread → ℕ → Op → Option ℕ → Reply → Type 0
AddsStep d before after old new t index o cites r = AddsInTurn peer_rules d before after (seen old) (seen new)
    (step_makings t index o cites r (gone_since old.state new.state))

-- the event begins or ends a marking
abbrev pub IsMarkEvent : Op → Type 0
IsMarkEvent op.Begin = Unit {0}
IsMarkEvent op.Sweep = Unit {0}
IsMarkEvent _ = ⊥

-- a begin or a sweep is refused: it may come next, and changes nothing
pub record RefusesMarking (s : PeerReplay) (m : Made) : Type 0 where
  pub caller : IsPeerThread m.caller ⊎ IsDriver m.caller
  pub event : IsMarkEvent m.op
  pub allowed : PeerAllows s m.caller m.op m.cites nothing
  pub answers : peer_answer s m.caller m.op m.cites nothing ≡ answer m.reply s
