-- The managed side by itself: its entries, by rising number, replayed. Nothing of the peer heap enters but what the
-- entries say of it. (The registry of peers' twins is that of the Xamarin.Android documentation.)
-- Believed: the clauses of the program's top call rest on all that stands here.
use Rattle.std.specs.Prelude.{◌≡◌, ℕ, ◌+◌, ◌↔◌, Bool, true, false, not, nat_eq, if◌then◌else◌, List, [], ◌∷◌, ◌++◌}
use Rattle.std.specs.Prelude.{length, filter, Contains, Option, Some, None}
use Rattle.std.specs.List.{list_any}
use Rattle.joint_machine.specs.declared.names.Thread.{Thread}
use Rattle.joint_machine.specs.declared.names.Phase.{Phase}
use Rattle.joint_machine.specs.declared.names.Phase.TheVariants as at
use Rattle.joint_machine.specs.declared.names.PhaseWord.{PhaseWord}
use Rattle.joint_machine.specs.declared.names.PhaseWord.TheVariants as word
use Rattle.joint_machine.specs.declared.events.Op.{Op}
use Rattle.joint_machine.specs.declared.events.Op.TheVariants as op
use Rattle.joint_machine.specs.declared.events.Reply.{Reply}
use Rattle.joint_machine.specs.declared.events.Reply.TheVariants as says
use Rattle.joint_machine.specs.Cycles.{IsSnapshot, snap_reply, IsResolution, resolve_reply, IsOpen, IsDeadContraction}
use Rattle.joint_machine.specs.Cycles.{IsAnsweredAlive}
use Rattle.joint_machine.specs.Heaps.{Answered, answer, not_here, slot, place}
use Rattle.joint_machine.specs.Managed.{Managed, OpenCycle, opening_managed, managed_line, adopted, met, given_up}
use Rattle.joint_machine.specs.Managed.{handle_reply, with_snapshot, resolved, abandoned}
use Rattle.joint_machine.specs.Phases.{next_phase}
use Rattle.joint_machine.specs.Run.{thread_number}
use Rattle.joint_machine.specs.Told.{Told, nothing, snap_of, contraction_of, resolution_of, phase_of, Answer}
use Rattle.joint_machine.specs.Told.{handles_given}

-- beside the managed objects: the pairs of a peer and its twin, the handles that were ever adopted or given to a row by
-- a resolution, and whether the open cycle's contraction was made
pub record ManagedReplay : Type 0 where
  pub managed : Managed
  pub registry : List (ℕ × ℕ)
  pub adopted : List ℕ
  pub contracted : Bool

-- nothing is there
abbrev pub opening_replay : ManagedReplay
opening_replay = record { managed = opening_managed; registry = []; adopted = []; contracted = false }

-- the twin that the registry has for a peer
abbrev pub registered : List (ℕ × ℕ) → ℕ → Option ℕ
registered [] p = None
registered (pair ∷ pairs) p = if nat_eq pair.0 p then Some pair.1 else registered pairs p

-- the pair is registered, unless the peer has a twin
abbrev pub with_twin : List (ℕ × ℕ) → ℕ → ℕ → Option ℕ → List (ℕ × ℕ)
with_twin pairs p m None = pairs ++ (p, m) ∷ []
with_twin pairs p m (Some twin) = pairs

-- the pairs whose twin isn't in the list
abbrev pub without_twins : List (ℕ × ℕ) → List ℕ → List (ℕ × ℕ)
without_twins pairs ms = filter (λ pair. not (list_any (nat_eq pair.1) ms)) pairs

-- an event of the managed objects that leaves the registry alone
abbrev pub plainly : ManagedReplay → Answered Managed → Answered ManagedReplay
plainly s a = answer a.reply (record s { managed = a.state })

-- a handle was adopted by a new row on its peer
abbrev pub took_handle : ManagedReplay → ℕ → ℕ → ℕ → Managed → ManagedReplay
took_handle s p h m after = record s {
  managed = after;
  registry = with_twin s.registry p m (registered s.registry p);
  adopted = s.adopted ++ h ∷ [];
}

-- an `adopt` by its answer: a new row is registered as the twin of its peer
abbrev pub adopt_by : ManagedReplay → ℕ → ℕ → Managed → Reply → Answered ManagedReplay
adopt_by s p h after (says.M m) = answer (says.M m) (took_handle s p h m.0 after)
adopt_by s p h after r = answer r (record s { managed = after })

-- a `meet` by its answer: a new row is registered as the twin of its peer
abbrev pub meet_by : ManagedReplay → ℕ → ℕ → Managed → Reply → Answered ManagedReplay
meet_by s p h after (says.New m) = answer (says.New m) (took_handle s p h m.0 after)
meet_by s p h after r = answer r (record s { managed = after })

-- a `give`: the registry forgets the pair of the row
abbrev pub give_by : ManagedReplay → Option ℕ → Answered Managed → Answered ManagedReplay
give_by s None a = plainly s a
give_by s (Some m) a = answer a.reply (record s { managed = a.state; registry = without_twins s.registry (m ∷ []) })

-- the reply that names the open cycle; idle where none is open
abbrev pub open_reply : Option OpenCycle → Reply
open_reply None = says.At at.Idle
open_reply (Some c) = says.CycleOpen record { 0 = c.number }

-- the reply of a refused phase: the open cycle's number for `cycle` and `snap`, else the driver's phase
abbrev pub refusal_to : Managed → Phase → PhaseWord → Reply
refusal_to s phase word.Cycle = open_reply s.cycle
refusal_to s phase word.Snap = open_reply s.cycle
refusal_to s phase _ = says.At phase

-- the reply to each managed event, and the state after it, given what is told beside it
abbrev pub managed_answer : ManagedReplay → Thread → Op → Told → Answered ManagedReplay
managed_answer s t (op.Line a) told = plainly s (managed_line s.managed (thread_number t) a)
managed_answer s t (op.Adopt v kind n p h) told = let a = adopted s.managed (place (thread_number t) v.0) kind n h.0 in
    adopt_by s p.0 h.0 a.state a.reply
managed_answer s t (op.Lend v x) told = answer (handle_reply s.managed (place (thread_number t) v.0)) s
managed_answer s t (op.Meet v sort n p h) told = let a = met s.managed
    (place (thread_number t) v.0) h.0 sort n (registered s.registry p.0) in meet_by s p.0 h.0 a.state a.reply
managed_answer s t (op.Give v) told = let v' = place (thread_number t) v.0 in
    give_by s (slot s.managed.heap.vars v') (given_up s.managed v')
managed_answer s t (op.Snap k) (snap_of freed candidates dead) = answer (snap_reply s.managed freed candidates)
    (record s { managed = with_snapshot s.managed freed candidates dead; contracted = false })
managed_answer s t (op.Contract k) (contraction_of comps heavy xrefs) = answer
    (says.Sccs (length comps + length heavy) (length xrefs)) (record s { contracted = true })
managed_answer s t (op.Resolve k) (resolution_of answers freed) = answer
    (resolve_reply s.managed freed) (record s {
      managed = resolved s.managed answers freed;
      registry = without_twins s.registry freed;
      adopted = s.adopted ++ handles_given answers;
    })
managed_answer s t (op.Abandon k) told = answer says.Ok (record s { managed = abandoned s.managed })
managed_answer s t (op.Refused w) (phase_of phase) = answer (refusal_to s.managed phase w) s
managed_answer s t (op.Release h) told = answer says.Ok s
managed_answer s t _ told = not_here s

-- cycle k is open, its contraction isn't made, and these are the components, heavy classes and cross-references of its
-- dead part
pub record MayContract (s : ManagedReplay) (k : ℕ) (comps : List (List ℕ))
    (heavy : List ℕ) (xrefs : List (ℕ × ℕ)) : Type 0 where
  pub cycle : OpenCycle
  pub open_cycle : IsOpen s.managed k cycle
  pub once : s.contracted ≡ false
  pub exact : IsDeadContraction s.managed cycle.dead comps heavy xrefs

-- the handles are all different, and no row ever took one of them
abbrev pub AreNew : List ℕ → List ℕ → Type 0
AreNew taken [] = Unit {0}
AreNew taken (h ∷ hs) = (Contains taken h → ⊥) × AreNew (taken ++ h ∷ []) hs

-- cycle k is open, there is one answer for each candidate, no row ever took the handles that the answers gave, and
-- these are the rows that no candidate that was answered alive reaches
pub record MayResolve (s : ManagedReplay) (k : ℕ) (alive : List Answer) (freed : List ℕ) : Type 0 where
  pub cycle : OpenCycle
  pub open_cycle : IsOpen s.managed k cycle
  pub answers : length alive ≡ length cycle.candidates
  pub new : AreNew s.adopted (handles_given alive)
  pub resolution : IsResolution s.managed cycle.dead (IsAnsweredAlive cycle.candidates alive) freed

-- a refusal: the driver's phase isn't the one before the word's own, and it is idle exactly where no cycle is open
pub record MayRefuse (s : ManagedReplay) (w : PhaseWord) (phase : Phase) : Type 0 where
  pub refused : next_phase phase w ≡ None
  pub idle : (phase ≡ at.Idle) ↔ (s.managed.cycle ≡ None)

-- what an event asks for, beside its reply
abbrev pub ManagedAllows : ManagedReplay → Op → Told → Type 0
ManagedAllows s (op.Line a) nothing = Unit {0}
ManagedAllows s (op.Adopt v kind n p h) nothing = Contains s.adopted h.0 → ⊥
ManagedAllows s (op.Lend v x) nothing = Unit {0}
ManagedAllows s (op.Meet v sort n p h) nothing = Contains s.adopted h.0 → ⊥
ManagedAllows s (op.Give v) nothing = Unit {0}
ManagedAllows s (op.Snap k) (snap_of freed candidates dead) = IsSnapshot s.managed k.0 freed candidates dead
ManagedAllows s (op.Contract k) (contraction_of comps heavy xrefs) = MayContract s k.0 comps heavy xrefs
ManagedAllows s (op.Resolve k) (resolution_of alive freed) = MayResolve s k.0 alive freed
ManagedAllows s (op.Abandon k) nothing = (c : OpenCycle) × IsOpen s.managed k.0 c
ManagedAllows s (op.Refused w) (phase_of phase) = MayRefuse s w phase
ManagedAllows s _ _ = ⊥
