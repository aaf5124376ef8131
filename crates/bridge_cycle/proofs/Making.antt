-- One entry of the driver, as a call of the driver's; and where the driver stands after it, by the line of its own last
-- entry.
use Rattle.std.proofs.Common.{◌≡◌, ℕ, ◌≤◌, List, [], ◌∷◌, ◌++◌, Option, Some, IfSome, refl, sym, ap, ◌∙◌, subst, append_assoc, arith}
use mathlib.Core.List.{IsPrefix}
use base.Growing.{prefix_trans}
use Rattle.joint_machine.specs.declared.names.Cycle.{Cycle}
use Rattle.joint_machine.specs.declared.names.Phase.{Phase}
use Rattle.joint_machine.specs.declared.names.PhaseWord.{PhaseWord}
use Rattle.joint_machine.specs.declared.names.Thread.{Thread}
use Rattle.joint_machine.specs.declared.names.Thread.TheVariants.{C}
use Rattle.joint_machine.specs.declared.events.Entry.{Entry}
use Rattle.joint_machine.specs.declared.events.Op.{Op}
use Rattle.joint_machine.specs.declared.events.Reply.{Reply}
use Rattle.joint_machine.specs.Control.{Stand, last_line as control_line}
use Rattle.joint_machine.specs.HistoryLines.{caller_line}
use Rattle.joint_machine.specs.Lines.{IsDriver}
use Rattle.joint_machine.specs.Managed.{Managed}
use Rattle.joint_machine.specs.Phases.{ArePhase, ArePhases, candidates_after, next_phase, told_by}
use Rattle.joint_machine.specs.Told.{Told}
use Rattle.known_laws.specs.Pasts.{end_of}
use Rattle.order_table.specs.declared.views.View.{View}
use Rattle.order_table.specs.Views.{known}
use Rattle.order_table.proofs.Lines.{below_begins}
use Rattle.joint_history.specs.Callers.{last_index}
use Rattle.joint_history.specs.Driven.{DriverMakes, DriverMakesNone, DriverStands, driver_entry}
use Rattle.joint_history.specs.Knowing.{line_known}
use Rattle.joint_history.specs.Operations.{AreAbove, MakesAll}
use Rattle.joint_history.proofs.LastLines.{last_line_is}
use Rattle.joint_history.proofs.DriverHears.{driver_later}
use Rattle.bridge_cycle.specs.declared.stages.Stage.{Stage}
use Rattle.bridge_cycle.specs.Held.{Fields, IsAt, IsOfCycle, KnowsItsStand, phase_of, shown, snapshot_in}
use Rattle.bridge_cycle.specs.Progress.{AreDriversOnLine, EndsWithReply, Enters, LeadTo, Progress, RunsWords, RunsPhases, cycle_after, line_of, opened_by}
use Rattle.bridge_cycle.specs.Words.{Lacks, next_word}

-- the line of the driver's last entry
own_line_is : (v : View) (index : ℕ) (stand : Stand) (seen : Managed) (s : DriverStands v index stand seen)
    → control_line (end_of s.known.known.past).control C ≡ last_index (line_known v (caller_line C))
own_line_is v index stand seen s = last_line_is v s.known C tt

pub line_below : (v : View) (index : ℕ) (stand : Stand) (seen : Managed) → DriverStands v index stand seen → last_index (line_known v (caller_line C)) ≤ index
line_below v index stand seen s = let e = own_line_is v index stand seen s in let l = s.stands.last in omega (arith, e, l)

pub at_own_line : (v : View) (index : ℕ) (stand : Stand) (seen : Managed) → DriverStands v index stand seen → DriverStands v (last_index (line_known v (caller_line C))) stand seen
at_own_line v index stand seen s = record { known = s.known; stands = record { last = (let e = own_line_is v index stand seen s in omega (arith, e)); come = s.stands.come; dead = s.stands.dead } }

-- what the driver keeps in a stage
abbrev pub kept : View → Stage → Cycle → ℕ → Fields
kept v s k n = record { view = v; stage = s; cycle = k; candidates = n }

-- the driver keeps these fields, of which contracts see that, and the line of its last entry isn't above this one
pub record DriverKeeps (q : Progress) (f : Fields) (index : ℕ) : Type 0 where
  pub held : KnowsItsStand f
  pub line : line_of (shown f) ≤ index
  pub seen : shown f ≡ q

pub keeps : (f : Fields) (q : Progress) (index : ℕ) → KnowsItsStand f → shown f ≡ q → line_of q ≤ index → DriverKeeps q f index
keeps f q index h e l = record { held = h; line = subst (λ (d : Progress). line_of d ≤ index) (sym e) l; seen = e }

-- so it is in the stage that is at hand
pub keeps_in : (f : Fields) (s : Stage) (q : Progress) (index : ℕ) → s ≡ f.stage → KnowsItsStand f → shown f ≡ q → line_of q ≤ index → DriverKeeps q (kept f.view s f.cycle f.candidates) index
keeps_in f s q index is h e l = subst (λ (z : Stage). DriverKeeps q (kept f.view z f.cycle f.candidates) index) (sym is) (keeps f q index h e l)

pub stands_on : (q : Progress) (f : Fields) (index : ℕ) (i : DriverKeeps q f index) (stand : Stand) → i.held.stand ≡ stand → DriverStands f.view index stand i.held.seen
stands_on q f index i stand e = subst (λ (s : Stand). DriverStands f.view index s i.held.seen) e (driver_later f.view (line_of (shown f)) index i.held.stand i.held.seen i.line i.held.stands)

-- what the driver keeps where it stands
pub held_there : (f : Fields) (index : ℕ) (stand : Stand) (seen : Managed) → DriverStands f.view index stand seen → IfSome (snapshot_in f.stage) (λ o. IsOfCycle f.cycle f.candidates seen o)
    → IsAt f.stage f.candidates stand → KnowsItsStand f
held_there f index stand seen stands cycle at = record { stand = stand; seen = seen; stands = at_own_line f.view index stand seen stands; cycle = cycle; at = at }

-- what it keeps after the next phase
pub record Steps (old : Progress) (next : Fields) (index : ℕ) (reply : Reply) : Type 0 where
  pub held : KnowsItsStand next
  pub line : line_of (shown next) ≤ index
  pub answers : EndsWithReply old (shown next) index (next_word old.phase ∷ []) reply

pub steps : (q : Progress) (f next : Fields) (index : ℕ) (reply : Reply) (stand : Stand) (seen : Managed) → DriverKeeps q f index → DriverStands next.view index stand seen
    → IfSome (snapshot_in next.stage) (λ o. IsOfCycle next.cycle next.candidates seen o) → IsAt next.stage next.candidates stand
    → EndsWithReply (shown f) (shown next) index (next_word (shown f).phase ∷ []) reply → Steps q next index reply
steps q f next index reply stand seen i stands cycle at answers = subst (λ (d : Progress). Steps d next index reply) i.seen
    (record { held = held_there next index stand seen stands cycle at; line = line_below next.view index stand seen stands; answers = answers })

-- in the stage that has come
pub steps_in : {q : Progress} {v : View} {k : Cycle} {n index : ℕ} {reply : Reply} {s t : Stage} → t ≡ s → Steps q (kept v s k n) index reply → Steps q (kept v t k n) index reply
steps_in {q} {v} {k} {n} {index} {reply} {s} {t} e w = subst (λ (z : Stage). Steps q (kept v z k n) index reply) (sym e) w

-- and where that one found no memory
pub record Fails (old : Progress) (next : Fields) (index : ℕ) : Type 0 where
  pub held : KnowsItsStand next
  pub line : line_of (shown next) ≤ index
  pub lacks : Lacks old (shown next) index (next_word old.phase)

-- after nothing
pub record Stays (old : Progress) (next : Fields) (index : ℕ) : Type 0 where
  pub held : KnowsItsStand next
  pub line : line_of (shown next) ≤ index
  pub runs : RunsWords old (shown next) index []

pub driver_seen : {t u : Thread} → u ≡ t → IsDriver t → IsDriver u
driver_seen e is = subst IsDriver (sym e) is

pub makes_one : (old new : View) (stand : Stand) (seen : Managed) (e : Entry) (told : Told) → DriverMakes old new stand seen e told → MakesAll C old new (e ∷ [])
makes_one old new stand seen e told d = record { own_more = d.own; more = d.more; above = (d.above, tt) }

-- a phase of one entry
pub ran_one : (old new : Progress) (index : ℕ) (w : PhaseWord) (e : Entry) → MakesAll C old.view new.view (e ∷ []) → e.made.caller ≡ C → e.made.index ≡ index
    → new.cycle ≡ cycle_after old.cycle (e ∷ []) → new.candidates ≡ candidates_after old.candidates (e ∷ [])
    → ArePhase old.candidates w (e ∷ []) → LeadTo old.phase (w ∷ []) new.phase → EndsWithReply old new index (w ∷ []) e.made.reply
ran_one old new index w e made caller line cycle candidates phase leads = record {
  entries = e ∷ [];
  runs = record {
    enters = record { made = made; places = (caller, line, tt); cycle = cycle; candidates = candidates };
    events = (e ∷ [], [], refl, phase, refl);
    leads = leads;
  };
  last = refl;
}

-- the driver stands in the next stage then
pub steps_one : (q : Progress) (f next : Fields) (index n : ℕ) (o : Op) (reply : Reply) (cites : Option ℕ) (stand to : Stand) (from seen : Managed) (told : Told) → DriverKeeps q f index
    → DriverMakes f.view next.view stand from (driver_entry n index o reply cites) told → DriverStands next.view index to seen
    → IfSome (snapshot_in next.stage) (λ s. IsOfCycle next.cycle next.candidates seen s) → IsAt next.stage next.candidates to
    → ArePhase f.candidates (next_word (phase_of f.stage)) (driver_entry n index o reply cites ∷ []) → next_phase (phase_of f.stage) (next_word (phase_of f.stage)) ≡ Some (phase_of next.stage)
    → next.cycle ≡ cycle_after f.cycle (driver_entry n index o reply cites ∷ []) → next.candidates ≡ candidates_after f.candidates (driver_entry n index o reply cites ∷ []) → Steps q next index reply
steps_one q f next index n o reply cites stand to from seen told i makes stands is at phase leads cycle candidates = steps q f next index reply to seen i stands is at
    (ran_one (shown f) (shown next) index (next_word (phase_of f.stage)) (driver_entry n index o reply cites) (makes_one f.view next.view stand from (driver_entry n index o reply cites) told makes)
    refl refl cycle candidates phase (phase_of next.stage, leads, refl))

pub append_nil : {A : Type 0} (xs : List A) → xs ++ [] ≡ xs
append_nil [] = refl
append_nil (x ∷ xs) = ap (λ ys. x ∷ ys) (append_nil xs)

-- a phase that made nothing
pub ran_none : (old new : Progress) (index : ℕ) → DriverMakesNone old.view new.view → new.cycle ≡ old.cycle → new.candidates ≡ old.candidates → new.phase ≡ old.phase → RunsWords old new index []
ran_none old new index none cycle candidates phase = (
  [],
  record {
    enters = record {
      made = record { own_more = none.own ∙ sym (append_nil (line_known old.view (caller_line C))); more = none.more; above = tt };
      places = tt;
      cycle = cycle;
      candidates = candidates;
    };
    events = refl;
    leads = phase;
  },
)

-- entries after entries
above_more : (v w : View) (es fs : List Entry) → ((i : ℕ) → IsPrefix (known v i) (known w i)) → AreAbove v es → AreAbove w fs → AreAbove v (es ++ fs)
above_more v w [] [] more a b = tt
above_more v w [] (f ∷ fs) more a b = ((λ i. below_begins f.number (known v i) (known w i) (more i) (b.0 i)), above_more v w [] fs more tt b.1)
above_more v w (e ∷ es) fs more a b = (a.0, above_more v w es fs more a.1 b)

pub makes_more : (old mid new : View) (es fs : List Entry) → MakesAll C old mid es → MakesAll C mid new fs → MakesAll C old new (es ++ fs)
makes_more old mid new es fs a b = record {
  own_more = b.own_more ∙ (ap (λ xs. xs ++ fs) a.own_more ∙ append_assoc (line_known old (caller_line C)) es fs);
  more = λ i. prefix_trans (known old i) (known mid i) (known new i) (a.more i) (b.more i);
  above = above_more old mid es fs a.more a.above b.above;
}

pub makes_nothing : (old new : View) → DriverMakesNone old new → MakesAll C old new []
makes_nothing old new none = record { own_more = none.own ∙ sym (append_nil (line_known old (caller_line C))); more = none.more; above = tt }

pub places_more : (index : ℕ) (es fs : List Entry) → AreDriversOnLine index es → AreDriversOnLine index fs → AreDriversOnLine index (es ++ fs)
places_more index [] fs a b = b
places_more index (e ∷ es) fs a b = (a.0, a.1, places_more index es fs a.2 b)

pub cycle_more : (k : Cycle) (es fs : List Entry) → cycle_after k (es ++ fs) ≡ cycle_after (cycle_after k es) fs
cycle_more k [] fs = refl
cycle_more k (e ∷ es) fs = cycle_more (opened_by k e.made.op) es fs

pub candidates_more : (n : ℕ) (es fs : List Entry) → candidates_after n (es ++ fs) ≡ candidates_after (candidates_after n es) fs
candidates_more n [] fs = refl
candidates_more n (e ∷ es) fs = candidates_more (told_by n e.made.reply) es fs

pub enters_more : (old mid new : Progress) (index : ℕ) (es fs : List Entry) → Enters old mid index es → Enters mid new index fs → Enters old new index (es ++ fs)
enters_more old mid new index es fs a b = record {
  made = makes_more old.view mid.view new.view es fs a.made b.made;
  places = places_more index es fs a.places b.places;
  cycle = b.cycle ∙ (ap (λ k. cycle_after k fs) a.cycle ∙ sym (cycle_more old.cycle es fs));
  candidates = b.candidates ∙ (ap (λ n. candidates_after n fs) a.candidates ∙ sym (candidates_more old.candidates es fs));
}

events_more : (n : ℕ) (ws vs : List PhaseWord) (es fs : List Entry) → ArePhases n ws es → ArePhases (candidates_after n es) vs fs → ArePhases n (ws ++ vs) (es ++ fs)
events_more n [] vs es fs a b = subst (λ (xs : List Entry). ArePhases n vs (xs ++ fs)) (sym a) (subst (λ (xs : List Entry). ArePhases (candidates_after n xs) vs fs) a b)
events_more n (w ∷ ws) vs es fs a b = (
  a.0,
  a.1 ++ fs,
  ap (λ xs. xs ++ fs) a.2 ∙ append_assoc a.0 a.1 fs,
  a.3,
  events_more (candidates_after n a.0) ws vs a.1 fs a.4 (subst (λ (m : ℕ). ArePhases m vs fs) (ap (candidates_after n) a.2 ∙ candidates_more n a.0 a.1) b),
)

pub leads_more : (a b c : Phase) (ws vs : List PhaseWord) → LeadTo a ws b → LeadTo b vs c → LeadTo a (ws ++ vs) c
leads_more a b c [] vs p q = subst (λ (z : Phase). LeadTo z vs c) p q
leads_more a b c (w ∷ ws) vs p q = (p.0, p.1, leads_more p.0 b c ws vs p.2 q)

pub runs_more : (old mid new : Progress) (index : ℕ) (ws vs : List PhaseWord) (es fs : List Entry) → RunsPhases old mid index ws es → RunsPhases mid new index vs fs
    → RunsPhases old new index (ws ++ vs) (es ++ fs)
runs_more old mid new index ws vs es fs a b = record {
  enters = enters_more old mid new index es fs a.enters b.enters;
  events = events_more old.candidates ws vs es fs a.events (subst (λ (n : ℕ). ArePhases n vs fs) a.enters.candidates b.events);
  leads = leads_more old.phase mid.phase new.phase ws vs a.leads b.leads;
}
