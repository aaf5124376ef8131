-- What every stage of the driver has in common: its phase is that of the stand, and a cycle is open but in the idle
-- one. So a word may be refused, and notices taken, and the driver keeps what it kept.
use Rattle.std.proofs.Common.{◌≡◌, ◌⊎◌, inl, inr, ℕ, ◌≤◌, [], ◌∷◌, length, Option, Some, None, IfSome, refl, sym, ap, ◌∙◌, subst, arith}
use mathlib.Core.List.{IsPrefix}
use Rattle.joint_machine.specs.declared.names.Cycle.{Cycle}
use Rattle.joint_machine.specs.declared.names.Thread.{Thread}
use Rattle.joint_machine.specs.declared.names.Thread.TheVariants.{M, P, C}
use Rattle.joint_machine.specs.declared.names.Phase.{Phase}
use Rattle.joint_machine.specs.declared.names.Phase.TheVariants as at
use Rattle.joint_machine.specs.declared.names.PhaseWord.{PhaseWord}
use Rattle.joint_machine.specs.declared.names.PhaseWord.TheVariants as word
use Rattle.joint_machine.specs.declared.lines.Act.{Act}
use Rattle.joint_machine.specs.declared.lines.Act.TheVariants as act
use Rattle.joint_machine.specs.declared.events.Entry.{Entry}
use Rattle.joint_machine.specs.declared.events.Op.TheVariants as op
use Rattle.joint_machine.specs.declared.events.Reply.{Reply}
use Rattle.joint_machine.specs.declared.events.Reply.TheVariants as says
use Rattle.joint_machine.specs.Control.{Stand, idle, IsAtRest, IsPhaseOf, last_line as control_line}
use Rattle.joint_machine.specs.Lines.{IsDriver}
use Rattle.joint_machine.specs.Managed.{Managed, OpenCycle, candidates_of}
use Rattle.joint_machine.specs.ManagedReplay.{refusal_to, open_reply}
use Rattle.joint_machine.specs.Phases.{AreRefusal, NamesPhase, next_phase, told_by}
use Rattle.joint_machine.specs.Told.{nothing, phase_of as told_phase}
use Rattle.joint_machine.proofs.Deciding.{none_some}
use Rattle.known_laws.specs.Pasts.{end_of}
use Rattle.known_laws.proofs.Conditions.{phase_is_at_rest}
use Rattle.managed_heap.specs.declared.opening.Opened.{Opened as Snapshot}
use Rattle.order_table.specs.declared.views.View.{View}
use Rattle.order_table.specs.Views.{known}
use Rattle.joint_history.specs.Callers.{Hears, KnowsNothing, Pass, last_index, reads_of}
use Rattle.joint_history.specs.Driven.{DriverMakesNone, DriverStands, IsStillAt, MakesFinalise, MakesRefusal, MayFinalise, MayRefuseWord, StillStands, driver_entry}
use Rattle.joint_history.specs.Ending.{HasIdleDriver}
use Rattle.view_laws.specs.Knowing.{IsDrawnView}
use Rattle.joint_history.proofs.DeadParts.{dead_part_self}
use Rattle.joint_history.proofs.DriverHears.{driver_first}
use Rattle.bridge_cycle.specs.declared.stages.Stage.{Stage}
use Rattle.bridge_cycle.specs.declared.stages.Stage.TheVariants as stage
use Rattle.bridge_cycle.specs.Held.{Fields, IsAt, IsOfCycle, KnowsItsStand, phase_of, shown, snapshot_in}
use Rattle.bridge_cycle.specs.Progress.{MakesOne, Progress, RunsLine, RunsWord, line_of, pass_of}
use Rattle.bridge_cycle.proofs.Making.{DriverKeeps, Stays, held_there, kept, line_below, makes_one, ran_none, stands_on}

-- the same fields, but that the driver knows more
abbrev pub knowing : Fields → View → Fields
knowing f new = record f { view = new }

-- the stand has the stage's phase
phase_at : (s : Stage) (k : Cycle) (n : ℕ) (stand : Stand) (seen : Managed) → IfSome (snapshot_in s) (λ o. IsOfCycle k n seen o) → IsAt s n stand
    → IsPhaseOf stand (length (candidates_of seen)) (phase_of s)
phase_at stage.Idle k n stand seen c a = subst (λ (s : Stand). IsPhaseOf s (length (candidates_of seen)) at.Idle) (sym a) refl
phase_at (stage.Snapped o) k n stand seen c a = subst (λ (s : Stand). IsPhaseOf s (length (candidates_of seen)) at.Snapped) (sym a) refl
phase_at (stage.Contracted o l r) k n stand seen c a = subst (λ (s : Stand). IsPhaseOf s (length (candidates_of seen)) at.Contracted) (sym a.1.2) refl
phase_at (stage.Mirrored o r) k n stand seen c a = subst (λ (s : Stand). IsPhaseOf s (length (candidates_of seen)) at.Mirrored) (sym a.1) (refl, inl (refl, refl, refl))
phase_at (stage.Weakened o r) k n stand seen c a = subst (λ (s : Stand). IsPhaseOf s (length (candidates_of seen)) at.Weakened) (sym a.1.1) (refl, inr (refl, sym c.count))
phase_at (stage.Marked o r) k n stand seen c a = subst (λ (s : Stand). IsPhaseOf s (length (candidates_of seen)) at.Marked) (sym a.1) refl
phase_at (stage.Swept o r) k n stand seen c a = subst (λ (s : Stand). IsPhaseOf s (length (candidates_of seen)) at.Swept) (sym a.1) (refl, refl)
phase_at (stage.Restored o r clear) k n stand seen c a = subst (λ (s : Stand). IsPhaseOf s (length (candidates_of seen)) at.Restored) (sym a) refl

pub phase_stands : (f : Fields) (h : KnowsItsStand f) → IsPhaseOf h.stand (length (candidates_of h.seen)) (phase_of f.stage)
phase_stands f h = phase_at f.stage f.cycle f.candidates h.stand h.seen h.cycle h.at

-- after a refusal the driver is in its stage
still_at : (s : Stage) (n : ℕ) (stand next : Stand) → IsAt s n stand → IsStillAt stand (phase_of s) next → IsAt s n next
still_at stage.Idle n stand next a still = subst (λ (s : Stand). IsStillAt s at.Idle next) a still
still_at (stage.Snapped o) n stand next a still = subst (λ (s : Stand). IsStillAt s at.Snapped next) a still
still_at (stage.Contracted o l r) n stand next a still = (a.0, (a.1.0, a.1.1, subst (λ (s : Stand). IsStillAt s at.Contracted next) a.1.2 still))
still_at (stage.Mirrored o r) n stand next a still = (a.0, subst (λ (s : Stand). IsStillAt s at.Mirrored next) a.1 still)
still_at (stage.Weakened o r) n stand next a still = (a.0, subst (λ (s : Stand). IsStillAt s at.Weakened next) a.1.1 still)
still_at (stage.Marked o r) n stand next a still = (a.0, subst (λ (s : Stand). IsStillAt s at.Marked next) a.1 still)
still_at (stage.Swept o r) n stand next a still = (a.0, subst (λ (s : Stand). IsStillAt s at.Swept next) a.1 still)
still_at (stage.Restored o r clear) n stand next a still = subst (λ (s : Stand). IsStillAt s at.Restored next) a still

-- a cycle is open, but in the idle stage
is_open : (s : Stage) (k : Cycle) (n : ℕ) (seen : Managed) → (phase_of s ≡ at.Idle → ⊥) → IfSome (snapshot_in s) (λ o. IsOfCycle k n seen o) → (o : Snapshot) × IsOfCycle k n seen o
is_open stage.Idle k n seen busy c = absurd (busy refl)
is_open (stage.Snapped o) k n seen busy c = (o, c)
is_open (stage.Contracted o l r) k n seen busy c = (o, c)
is_open (stage.Mirrored o r) k n seen busy c = (o, c)
is_open (stage.Weakened o r) k n seen busy c = (o, c)
is_open (stage.Marked o r) k n seen busy c = (o, c)
is_open (stage.Swept o r) k n seen busy c = (o, c)
is_open (stage.Restored o r clear) k n seen busy c = (o, c)

-- who knows more is in the same stage
pub held_on : (f : Fields) (new : View) → StillStands f.view new → KnowsItsStand f → KnowsItsStand (knowing f new)
held_on f new on h = held_there (knowing f new) (line_of (shown f)) h.stand h.seen (on (line_of (shown f)) h.stand h.seen h.stands) h.cycle h.at

-- the reply of a refusal
names : (w : PhaseWord) (f : Fields) (h : KnowsItsStand f) → next_phase (phase_of f.stage) w ≡ None → NamesPhase w (phase_of f.stage) (refusal_to h.seen (phase_of f.stage) w)
names word.Cycle f h r =
    let c = is_open f.stage f.cycle f.candidates h.seen (λ e. none_some at.Idle (sym r ∙ ap (λ p. next_phase p word.Cycle) e)) h.cycle in
    subst (λ (o : Option OpenCycle). (k : Cycle) × (open_reply o ≡ says.CycleOpen k)) (sym c.1.opened) (_, refl)
names word.Snap f h r =
    let c = is_open f.stage f.cycle f.candidates h.seen (λ e. none_some at.Snapped (sym r ∙ ap (λ p. next_phase p word.Snap) e)) h.cycle in
    subst (λ (o : Option OpenCycle). (k : Cycle) × (open_reply o ≡ says.CycleOpen k)) (sym c.1.opened) (_, refl)
names word.Contract f h r = refl
names word.Mirror f h r = refl
names word.Weaken f h r = refl
names word.Mark f h r = refl
names word.Sweep f h r = refl
names word.Restore f h r = refl
names word.Resolve f h r = refl

-- a refusal tells no number of candidates
refusal_tells : (w : PhaseWord) (p : Phase) (seen : Managed) (n : ℕ) → told_by n (refusal_to seen p w) ≡ n
refusal_tells word.Cycle p seen n = by seen.cycle
  where
    by : (o : Option OpenCycle) → told_by n (open_reply o) ≡ n
    by None = refl
    by (Some c) = refl
refusal_tells word.Snap p seen n = by seen.cycle
  where
    by : (o : Option OpenCycle) → told_by n (open_reply o) ≡ n
    by None = refl
    by (Some c) = refl
refusal_tells word.Contract p seen n = refl
refusal_tells word.Mirror p seen n = refl
refusal_tells word.Weaken p seen n = refl
refusal_tells word.Mark p seen n = refl
refusal_tells word.Sweep p seen n = refl
refusal_tells word.Restore p seen n = refl
refusal_tells word.Resolve p seen n = refl

-- what the driver keeps after a line whose entry leaves it in its phase
pub record StepsOne (old : Progress) (next : Fields) (index : ℕ) (a : Act) (reply : Reply) : Type 0 where
  pub held : KnowsItsStand next
  pub line : line_of (shown next) ≤ index
  pub runs : RunsLine old (shown next) index a reply

module _ (q : Progress) (f : Fields) (index : ℕ) (i : DriverKeeps q f index) where
  abbrev h : KnowsItsStand f
  h = i.held

  stands : DriverStands f.view index h.stand h.seen
  stands = stands_on q f index i h.stand refl

  -- a line of one entry, after which the driver stands there
  one : (new : View) (a : Act) (e : Entry) (stand : Stand) → DriverStands new index stand h.seen → IsAt f.stage f.candidates stand
      → RunsLine (shown f) (shown (knowing f new)) index a e.made.reply → StepsOne q (knowing f new) index a e.made.reply
  one new a e stand s at runs = subst (λ (d : Progress). StepsOne d (knowing f new) index a e.made.reply) i.seen
      (record { held = held_there (knowing f new) index stand h.seen s h.cycle at; line = line_below new index stand h.seen s; runs = runs })

  refused_here : (w : PhaseWord) → next_phase q.phase w ≡ None → next_phase (phase_of f.stage) w ≡ None
  refused_here w r = ap (λ (d : Progress). next_phase d.phase w) i.seen ∙ r

  phase_here : (p : Phase) → p ≡ q.phase → p ≡ phase_of f.stage
  phase_here p is = is ∙ sym (ap (λ (d : Progress). d.phase) i.seen)

  pub may_refuse : (w : PhaseWord) (p : Phase) → p ≡ q.phase → next_phase q.phase w ≡ None → MayRefuseWord f.view index w p
  may_refuse w p is r = subst (MayRefuseWord f.view index w) (sym (phase_here p is))
      (record { stand = h.stand; seen = h.seen; stands = stands; in_phase = phase_stands f h; refused = refused_here w r })

  pub refused_now : (w : PhaseWord) (p : Phase) (new : View) (m : ℕ) (reply : Reply) → p ≡ q.phase → next_phase q.phase w ≡ None → MakesRefusal f.view new index m w p reply
      → StepsOne q (knowing f new) index (act.PhaseLine w) reply
  refused_now w p new m reply is r makes =
      let v = subst (λ (z : Phase). MakesRefusal f.view new index m w z reply) (phase_here p is) makes h.stand h.seen stands (phase_stands f h) in
      let e : Entry = driver_entry m index (op.Refused w) reply None in
      let made : MakesOne (shown f) (shown (knowing f new)) index (e ∷ []) = record {
        enters = record {
          made = makes_one f.view new h.stand h.seen e (told_phase (phase_of f.stage)) v.makes;
          places = (refl, refl, tt);
          cycle = refl;
          candidates = sym (ap (told_by f.candidates) v.answers ∙ refusal_tells w (phase_of f.stage) h.seen f.candidates);
        };
        phase = refl;
        same_candidates = refl;
      } in
      let refusal : AreRefusal (phase_of f.stage) w (e ∷ []) = record {
        entry = e;
        all = refl;
        refuses = refl;
        names = subst (λ (z : Reply). NamesPhase w (phase_of f.stage) z) (sym v.answers) (names w f h (refused_here w r));
      } in
      one new (act.PhaseLine w) e v.next v.stands (still_at f.stage f.candidates h.stand v.next h.at v.still)
      (record { entries = e ∷ []; runs = subst (λ (z : Option Phase). RunsWord (shown f) (shown (knowing f new)) index w z (e ∷ [])) (sym (refused_here w r)) (made, refusal); last = refl })

  rests : IsAtRest h.stand (length (candidates_of h.seen))
  rests = phase_is_at_rest h.stand (length (candidates_of h.seen)) (phase_of f.stage) (phase_stands f h)

  pub may_finalise : MayFinalise f.view index
  may_finalise = record { stand = h.stand; seen = h.seen; stands = stands; rests = rests }

  pub took_now : (count m : ℕ) (new : View) (reply : Reply) → MakesFinalise f.view new index m count reply → StepsOne q (knowing f new) index (act.Finalise count) reply
  took_now count m new reply makes =
      let v = makes h.stand h.seen stands rests in
      let e : Entry = driver_entry m index (op.Line (act.Finalise count)) reply None in
      let made : MakesOne (shown f) (shown (knowing f new)) index (e ∷ []) = record {
        enters = record {
          made = makes_one f.view new h.stand h.seen e nothing v.0;
          places = (refl, refl, tt);
          cycle = refl;
          candidates = sym (ap (told_by f.candidates) v.0.comes.comes.lawful.replies);
        };
        phase = refl;
        same_candidates = refl;
      } in
      one new (act.Finalise count) e h.stand v.1 h.at (record { entries = e ∷ []; runs = (made, record { entry = e; all = refl; takes = refl }); last = refl })

  -- no entry was made
  pub stayed_now : (new : View) → DriverMakesNone f.view new → Stays q (knowing f new) index
  stayed_now new none = subst (λ (d : Progress). Stays d (knowing f new) index) i.seen (record {
    held = held_on f new none.stands h;
    line = (let e = ap last_index none.own in let l = i.line in omega (arith, e, l));
    runs = ran_none (shown f) (shown (knowing f new)) index none refl refl refl;
  })

  pub still_keeps : (new : View) → DriverMakesNone f.view new → DriverKeeps (shown (knowing f new)) (knowing f new) index
  still_keeps new none = let s = stayed_now new none in record { held = s.held; line = s.line; seen = refl }

-- the caller of an idle driver, and an idle driver's caller
pub held_first : (p : Pass) (cycle : Cycle) → IsDriver p.thread → HasIdleDriver p → KnowsItsStand (kept p.view stage.Idle cycle 0)
held_first p cycle is idle_one =
    let a = idle_one is in
    let seen = (end_of a.0.known.past).managed.managed in
    held_there (kept p.view stage.Idle cycle 0) (control_line (end_of a.0.known.past).control C) idle seen
    (record { known = a.0; stands = record { last = omega arith; come = a.1; dead = dead_part_self seen } }) tt refl

idle_at : (s : Stage) (n : ℕ) (stand : Stand) → phase_of s ≡ at.Idle → IsAt s n stand → stand ≡ idle
idle_at stage.Idle n stand e a = a
idle_at (stage.Snapped o) n stand e a = cc
idle_at (stage.Contracted o l r) n stand e a = cc
idle_at (stage.Mirrored o r) n stand e a = cc
idle_at (stage.Weakened o r) n stand e a = cc
idle_at (stage.Marked o r) n stand e a = cc
idle_at (stage.Swept o r) n stand e a = cc
idle_at (stage.Restored o r clear) n stand e a = cc

pub idle_again : (p : Pass) (f : Fields) → p.view ≡ f.view → phase_of f.stage ≡ at.Idle → KnowsItsStand f → HasIdleDriver p
idle_again p f same e h is =
    subst (λ (v : View). (a : IsDrawnView v) × ((end_of a.known.past).control.stand ≡ idle)) (sym same) (h.stands.known, h.stands.stands.come ∙ idle_at f.stage f.candidates h.stand e h.at)

-- what a caller heard of the driver's own
pub heard_of : (p a b : Pass) (d : Progress) → p.view ≡ d.view → Hears p a b → Hears (pass_of d) a b
heard_of p a b d e h = record {
  thread = h.thread;
  reads = h.reads;
  own_stay = h.own_stay;
  either = subst (λ (v : View). (i : ℕ) → (known b.view i ≡ known a.view i) ⊎ (known b.view i ≡ known v i)) e h.either;
  knew = h.knew;
  heard = subst (λ (v : View). (i : ℕ) → IsPrefix (known v i) (known b.view i)) e h.heard;
}

-- the driver's pass is what contracts see of it
pub driver_is : (p : Pass) (d : Progress) → IsDriver p.thread → p.reads ≡ reads_of p.thread p.reads → p.view ≡ d.view → p ≡ pass_of d
driver_is p d is none e = seen p.thread refl is
  where
    seen : (t : Thread) → p.thread ≡ t → IsDriver t → p ≡ pass_of d
    seen C q i = λ j. record { thread = q j; view = e j; reads = (none ∙ ap (λ (u : Thread). reads_of u p.reads) q) j }
    seen (M n) q i = absurd i
    seen (P n) q i = absurd i

-- and what the driver heard
pub driver_hears : (p a b : Pass) (d e : Progress) → IsDriver a.thread → a.reads ≡ reads_of a.thread a.reads → a.view ≡ d.view → b.view ≡ e.view → Hears p a b → Hears p (pass_of d) (pass_of e)
driver_hears p a b d e is none old new h =
    let none' : b.reads ≡ reads_of b.thread b.reads = h.reads ∙ (none ∙ sym (λ i. reads_of (h.thread i) (h.reads i))) in
    subst (λ (x : Pass). Hears p x (pass_of e)) (driver_is a d is none old)
    (subst (Hears p a) (driver_is b e (subst IsDriver (sym h.thread) is) none' new) h)

-- a caller that knows nothing is idle, and has no entry
pub idle_first : (p : Pass) → KnowsNothing p.view → HasIdleDriver p
idle_first p none is = let r = driver_first p.view none in (r.stands.known, r.stands.stands.come)
