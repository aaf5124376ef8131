-- What a replay follows before the first entry, whether a managed entry gives the snap that is waited for, and whether
-- nothing has to follow.
use Rattle.std.proofs.Common.{◌≡◌, ℕ, ◌<◌, ◌↔◌, Bool, true, false, not, ◌&&◌, List, [], Option, Some, None, refl, sym, ap, ◌∙◌, subst, replicate, true≢false}
use Rattle.std.specs.Prelude.{is_some, MatchOption}
use Rattle.std.proofs.lemmas.List.Elements.{All-nil}
use Rattle.joint_machine.specs.declared.names.Cycle.{Cycle}
use Rattle.joint_machine.specs.declared.names.Phase.{Phase}
use Rattle.joint_machine.specs.declared.names.PhaseWord.{PhaseWord}
use Rattle.joint_machine.specs.declared.names.Phase.TheVariants as at
use Rattle.joint_machine.specs.declared.names.Thread.{Thread}
use Rattle.joint_machine.specs.declared.events.Made.{Made}
use Rattle.joint_machine.specs.declared.events.Op.{Op}
use Rattle.joint_machine.specs.declared.events.Op.TheVariants as op
use Rattle.joint_machine.specs.Control.{opening_control}
use Rattle.joint_machine.specs.Draws.{AllBelow}
use Rattle.joint_machine.specs.declared.events.Reply.{Reply}
use Rattle.joint_machine.specs.Histories.{Finished}
use Rattle.joint_machine.specs.Lines.{is_peer_event, is_read}
use Rattle.joint_machine.specs.Linked.{IsWhole}
use Rattle.joint_machine.specs.ManagedReplay.{opening_replay}
use Rattle.joint_machine.specs.Told.{Noted, Told, contraction_of, nothing}
use Rattle.check_laws.specs.Behind.{GivesSnap, RepliesBehind, WaitsForSnap, state_of}
use Rattle.check_laws.specs.Findings.{NothingFollows}
use Rattle.check_laws.specs.Laws.{IsNoRefusal}
use Rattle.caller_turns.specs.declared.stands.Part.{Part}
use Rattle.caller_turns.specs.Shapes.{IsPartOf, TellsPhase, callers_of}
use Rattle.caller_turns.specs.Turns.{AreDone, Callers}
use Rattle.caller_turns.proofs.Turning.{whole_tested}
use Rattle.reader_counts.specs.Counts.{opening_counts}
use Rattle.reader_counts.specs.Told.{AreCountsOf}
use Rattle.reader_counts.proofs.Counted.{counts_on}
use Rattle.peer_heap.specs.Sides.{opening_side}
use Rattle.run_check.specs.declared.readers.Readers.{Readers}
use Rattle.run_check.specs.declared.replays.Replay.{Replay}
use Rattle.run_check.specs.Cycles.{CycleFollows}
use Rattle.run_check.specs.Judging.{AnswersRightly, TellsRightly, next_noted}
use Rattle.run_check.specs.Follows.{Follows, OwedFollows, PeersFollow, StoresFollow}

-- before the first entry
pub opened : (r : Replay) → r.draw.counter ≡ 0 → r.managed.threads ≡ 8 → r.managed.entries ≡ [] → r.managed.state ≡ opening_replay → r.peers ≡ opening_side 8 → r.turns ≡ callers_of opening_control
    → r.readers ≡ record { pins = replicate 9 None; targets = replicate 64 None; counts = opening_counts; owed = None } → r.cycle ≡ None → Follows [] r
opened r drawn threads entries state peers turns readers cycle = record {
  sides = record {
    drawn = drawn;
    managed = record { threads = threads; below = subst (λ es. AllBelow es 0) (sym entries) (All-nil (λ e. e.number < 0)); state = state };
    peers = subst (PeersFollow []) (sym peers) record { threads = refl; below = All-nil (λ e. e.number < 0); state = refl; reserve = record { none_waits = refl; left = tt } };
    stores = subst (StoresFollow []) (sym readers) record { nine = refl; pins = refl; many = refl; cells = refl };
    cycle = subst (CycleFollows (state_of [])) (sym cycle) refl;
  };
  callers = record {
    turns = turns;
    counts = subst (λ (x : Readers). AreCountsOf [] x.counts) (sym readers) counts_on.first;
    owed = subst (λ (x : Readers). OwedFollows [] x.owed) (sym readers) (λ k w. w.there);
  };
}

-- the snap that is waited for
pub gives-none : (past : List Noted) (o : Op) (owed : Option Cycle) → OwedFollows past owed → owed ≡ None → (k : ℕ) → WaitsForSnap past k → o ≡ op.Snap record { 0 = k }
gives-none past o owed w e = λ k x. absurd (subst (OwedFollows past) e w k x)

pub gives-some : (past : List Noted) (o : Op) (owed : Option Cycle) (k : Cycle) → OwedFollows past owed → owed ≡ Some k → o ≡ op.Snap k → (j : ℕ) → WaitsForSnap past j → o ≡ op.Snap record { 0 = j }
gives-some past o owed k w e q = λ j x. q ∙ ap (λ z. op.Snap record { 0 = z }) (sym ((subst (OwedFollows past) e w).alone j x))

pub gives-back : (past : List Noted) (o : Op) (owed : Option Cycle) (k : Cycle) → OwedFollows past owed → owed ≡ Some k → ((j : ℕ) → WaitsForSnap past j → o ≡ op.Snap record { 0 = j }) → o ≡ op.Snap k
gives-back past o owed k w e g = g k.0 (subst (OwedFollows past) e w).waits

-- nobody waits
pub owed-none : (past : List Noted) (owed : Option Cycle) → OwedFollows past owed → ((k : ℕ) → WaitsForSnap past k → ⊥) → owed ≡ None
owed-none past None w never = refl
owed-none past (Some k) w never = absurd (never k.0 w.waits)

module _ (past : List Noted) (r : Replay) (f : Follows past r) (part : Part) (p : IsPartOf (state_of past) part) where
  whole : AreDone r.turns part.candidates ↔ IsWhole (state_of past)
  whole = subst (λ (c : Callers). AreDone c part.candidates ↔ IsWhole (state_of past)) (sym f.callers.turns) (whole_tested (state_of past) part.candidates p.candidates)

  pub nothing-follows : AreDone r.turns part.candidates → r.readers.owed ≡ None → NothingFollows past
  nothing-follows d o = record { whole = whole.0 d; snapped = subst (OwedFollows past) o f.callers.owed }

  pub follows-done : NothingFollows past → AreDone r.turns part.candidates
  follows-done n = whole.1 n.whole

-- a test that nothing is left
pub none-left : (o : Option Cycle) (r : Bool) → is_some o ≡ not r → r ≡ true → o ≡ None
none-left None r e q = refl
none-left (Some k) r e q = absurd (true≢false (e ∙ ap not q))

pub left-none : (o : Option Cycle) (r : Bool) → is_some o ≡ not r → o ≡ None → r ≡ true
left-none o true e q = refl
left-none o false e q = absurd (true≢false (sym e ∙ ap is_some q))

pub gives-managed : (past : List Noted) (m : Made) → is_peer_event m.caller m.op ≡ false → is_read m.op ≡ false
    → ((k : ℕ) → WaitsForSnap past k → m.op ≡ op.Snap record { 0 = k }) ↔ GivesSnap past (next_noted past m nothing)
gives-managed past m p r = ((λ g y. g), λ g. g (ap (λ b. not b && not (is_read m.op)) p ∙ ap (λ b. not b) r))

-- what an answer yes or no tells of an entry that is no refusal
tells-phase : (h : Finished) (past : List Noted) (c : Thread) (l : ℕ) (o : Op) (r : Reply) (x : Option ℕ) (told : Told) (phase : Phase) → IsNoRefusal o
    → RepliesBehind (is_read o) h past (next_noted past (record { caller = c; index = l; op = o; reply = r; cites = x }) told) → TellsPhase o told phase
tells-phase h past c l (op.Contract k) r x (contraction_of comps heavy xrefs) phase n w = tt
tells-phase h past c l (op.Contract k) r x told phase n w = absurd w.replies.lawful.allowed
tells-phase h past c l (op.Refused z) r x told phase n w = absurd n
tells-phase h past c l o r x told phase n w = tt

pub tells-so : (h : Finished) (m : Made) (old new : Replay) (b : Bool) (y : Option Phase) → IsNoRefusal m.op
    → (b ≡ true → y ≡ Some at.Idle) → (b ≡ false → y ≡ None) → AnswersRightly h m old new b → TellsRightly h m old new y
tells-so h m old new true y n some none a = subst (TellsRightly h m old new) (sym (some refl))
    (λ past w. let t = a past w in (t.0, t.1, tells-phase h past m.caller m.index m.op m.reply m.cites t.0 at.Idle n t.1.replies))
tells-so h m old new false y n some none a = subst (TellsRightly h m old new) (sym (none refl)) a

abbrev pub snap-number : Op → ℕ
snap-number (op.Snap k) = k.0
snap-number _ = 0

-- which events are no refusals
pub read-plain : (o : Op) → is_read o ≡ true → IsNoRefusal o
read-plain (op.Refused w) e = absurd (let f : false ≡ true = e in cc)
read-plain o e = tt

pub peer-plain : (t : Thread) (o : Op) → is_peer_event t o ≡ true → IsNoRefusal o
peer-plain t (op.Refused w) e = absurd (let f : false ≡ true = e in cc)
peer-plain t o e = tt

pub other-plain : (o : Op) → ((w : PhaseWord) → o ≡ op.Refused w → ⊥) → IsNoRefusal o
other-plain (op.Refused w) deny = deny w refl
other-plain o deny = tt

-- an option that isn't some
pub match-none : {A : Type 0} (o : Option A) (P : Type 0) (Q : A → Type 0) → MatchOption o P Q → is_some o ≡ false → P
match-none None P Q m e = m
match-none (Some x) P Q m e = absurd (true≢false e)
