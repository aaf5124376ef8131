-- What the driver's calls make are the entries of its lines, and it stands where they lead. A word that is due leads to
-- the phase after it: `cycle` runs all eight phases, which lead from idle back to it; a word that is refused, and a
-- `finalise`, leave the driver where it stands.
use Rattle.std.proofs.Common.{◌≡◌, ℕ, List, [], ◌∷◌, Option, Some, None, refl, sym, ◌∙◌, ap, subst}
use Rattle.std.specs.Prelude.{unwrap_or}
use Rattle.std.specs.Prelude.{Result, Ok, Err, OnErr, OnOk}
use Rattle.joint_machine.specs.declared.names.Phase.{Phase}
use Rattle.joint_machine.specs.declared.names.Phase.TheVariants as at
use Rattle.joint_machine.specs.declared.names.PhaseWord.{PhaseWord}
use Rattle.joint_machine.specs.declared.names.PhaseWord.TheVariants as word
use Rattle.joint_machine.specs.declared.names.Thread.TheVariants.{C}
use Rattle.joint_machine.specs.declared.lines.Act.{Act}
use Rattle.joint_machine.specs.declared.lines.Act.TheVariants as act
use Rattle.joint_machine.specs.declared.events.Op.TheVariants as op
use Rattle.joint_machine.specs.declared.events.Reply.{Reply}
use Rattle.joint_machine.specs.declared.events.Entry.{Entry}
use Rattle.joint_machine.specs.Lines.{IsLine}
use Rattle.joint_machine.specs.Phases.{next_phase, phases_left, phases_of, ArePhases, AreRefusal, candidates_after}
use Rattle.bridge_cycle.specs.Progress.{Progress, AreDriversOnLine, AreNotices, LeadTo, MakesOne, RunsWords, RunsLine, RunsAct, RunsPhases, RunsWord}
use Rattle.script_laws.specs.Holding.{Standing, AreEventsAfter, AreWord, AreOnLine}
use Rattle.script_runs.specs.Running.{DrivesLeft, DrivesLine, StandsAs}
use Rattle.joint_machine.proofs.Deciding.{some-same, none_some}

on-line : (index : ℕ) (es : List Entry) → AreDriversOnLine index es → AreOnLine index C es
on-line index [] a = tt
on-line index (e ∷ es) a = (record { caller = a.0; line = a.1 }, on-line index es a.2)

lead-one : (from next to : Phase) (w : PhaseWord) (ws : List PhaseWord) → next_phase from w ≡ Some next → LeadTo from (w ∷ ws) to → LeadTo next ws to
lead-one from next to w ws e l = subst (λ p. LeadTo p ws to) (some-same l.0 next (sym l.1 ∙ e)) l.2

from-restored : (to : Phase) → LeadTo at.Restored (phases_left at.Restored) to → to ≡ at.Idle
from-restored to l = lead-one at.Restored at.Idle to word.Resolve [] refl l

from-swept : (to : Phase) → LeadTo at.Swept (phases_left at.Swept) to → to ≡ at.Idle
from-swept to l = from-restored to (lead-one at.Swept at.Restored to word.Restore (phases_left at.Restored) refl l)

from-marked : (to : Phase) → LeadTo at.Marked (phases_left at.Marked) to → to ≡ at.Idle
from-marked to l = from-swept to (lead-one at.Marked at.Swept to word.Sweep (phases_left at.Swept) refl l)

from-weakened : (to : Phase) → LeadTo at.Weakened (phases_left at.Weakened) to → to ≡ at.Idle
from-weakened to l = from-marked to (lead-one at.Weakened at.Marked to word.Mark (phases_left at.Marked) refl l)

from-mirrored : (to : Phase) → LeadTo at.Mirrored (phases_left at.Mirrored) to → to ≡ at.Idle
from-mirrored to l = from-weakened to (lead-one at.Mirrored at.Weakened to word.Weaken (phases_left at.Weakened) refl l)

from-contracted : (to : Phase) → LeadTo at.Contracted (phases_left at.Contracted) to → to ≡ at.Idle
from-contracted to l = from-mirrored to (lead-one at.Contracted at.Mirrored to word.Mirror (phases_left at.Mirrored) refl l)

from-snapped : (to : Phase) → LeadTo at.Snapped (phases_left at.Snapped) to → to ≡ at.Idle
from-snapped to l = from-contracted to (lead-one at.Snapped at.Contracted to word.Contract (phases_left at.Contracted) refl l)

idle-round : (to : Phase) → LeadTo at.Idle (phases_of word.Cycle) to → to ≡ at.Idle
idle-round to l = from-snapped to (lead-one at.Idle at.Snapped to word.Snap (phases_left at.Snapped) refl l)

cycle-leads : (from next to : Phase) → next_phase from word.Cycle ≡ Some next → LeadTo from (phases_of word.Cycle) to → to ≡ next
cycle-leads at.Idle next to e l = idle-round to l ∙ some-same at.Idle next e
cycle-leads from next to e l = absurd (none_some next e)

one-leads : (w : PhaseWord) (from next to : Phase) → next_phase from w ≡ Some next → LeadTo from (w ∷ []) to → to ≡ next
one-leads w from next to e l = lead-one from next to w [] e l

word-leads : (w : PhaseWord) (from next to : Phase) → next_phase from w ≡ Some next → LeadTo from (phases_of w) to → to ≡ next
word-leads word.Cycle from next to e l = cycle-leads from next to e l
word-leads word.Snap from next to e l = one-leads word.Snap from next to e l
word-leads word.Contract from next to e l = one-leads word.Contract from next to e l
word-leads word.Mirror from next to e l = one-leads word.Mirror from next to e l
word-leads word.Weaken from next to e l = one-leads word.Weaken from next to e l
word-leads word.Mark from next to e l = one-leads word.Mark from next to e l
word-leads word.Sweep from next to e l = one-leads word.Sweep from next to e l
word-leads word.Restore from next to e l = one-leads word.Restore from next to e l
word-leads word.Resolve from next to e l = one-leads word.Resolve from next to e l

module _ (old new : Progress) (index : ℕ) (w : PhaseWord) (es : List Entry) where
  -- a word that is due
  due : (next : Phase) → next_phase old.phase w ≡ Some next → RunsPhases old new index (phases_of w) es → DrivesLine old new index (act.PhaseLine w)
  due next e k = record {
    entries = es;
    made = k.enters.made;
    line = λ s at_s. record {
      lawful = tt;
      places = on-line index es k.enters.places;
      events = subst (λ o. AreWord s w o es) (sym (leads s at_s)) (subst (λ n. ArePhases n (phases_of w) es) (sym at_s.candidates) k.events);
    };
    stands = λ s at_s. record {
      phase = ap (λ next. unwrap_or next s.phase) (leads s at_s) ∙ sym (word-leads w old.phase next new.phase e k.leads);
      candidates = ap (λ n. candidates_after n es) at_s.candidates ∙ sym k.enters.candidates;
    };
    last = λ s. refl;
  }
    where
      leads : (s : Standing) → StandsAs s old → next_phase s.phase w ≡ Some next
      leads s at_s = ap (λ p. next_phase p w) at_s.phase ∙ e

  -- a word that is refused
  refused : next_phase old.phase w ≡ None → MakesOne old new index es × AreRefusal old.phase w es → DrivesLine old new index (act.PhaseLine w)
  refused e k = record {
    entries = es;
    made = k.0.enters.made;
    line = λ s at_s. record {
      lawful = tt;
      places = on-line index es k.0.enters.places;
      events = subst (λ o. AreWord s w o es) (sym (leads s at_s)) (subst (λ p. AreRefusal p w es) (sym at_s.phase) k.1);
    };
    stands = λ s at_s. record {
      phase = ap (λ next. unwrap_or next s.phase) (leads s at_s) ∙ (at_s.phase ∙ sym k.0.phase);
      candidates = ap (λ n. candidates_after n es) at_s.candidates ∙ sym k.0.enters.candidates;
    };
    last = λ s. refl;
  }
    where
      leads : (s : Standing) → StandsAs s old → next_phase s.phase w ≡ None
      leads s at_s = ap (λ p. next_phase p w) at_s.phase ∙ e

  either : (o : Option Phase) → next_phase old.phase w ≡ o → RunsWord old new index w o es → DrivesLine old new index (act.PhaseLine w)
  either None e k = refused e k
  either (Some next) e k = due next e k

-- the taking of notices
notices-events : (n : ℕ) (e : Entry) → e.made.op ≡ op.Line (act.Finalise n) → AreEventsAfter (act.Finalise n) [] (e ∷ [])
notices-events n e is = (ap (λ o. Some o) (sym is), refl)

takes-notices : (old new : Progress) (index n : ℕ) (es : List Entry) → IsLine C (act.Finalise n) → MakesOne old new index es × AreNotices n es → DrivesLine old new index (act.Finalise n)
takes-notices old new index n es lawful k = record {
  entries = es;
  made = k.0.enters.made;
  line = λ s at_s. record {
    lawful = lawful;
    places = on-line index es k.0.enters.places;
    events = subst (AreEventsAfter (act.Finalise n) []) (sym k.1.all) (notices-events n k.1.entry k.1.takes);
  };
  stands = λ s at_s. record { phase = at_s.phase ∙ sym k.0.phase; candidates = at_s.candidates ∙ sym k.0.same_candidates };
  last = λ s. refl;
}

by-act : (old new : Progress) (index : ℕ) (a : Act) (es : List Entry) → IsLine C a → RunsAct old new index a es → DrivesLine old new index a
by-act old new index (act.PhaseLine w) es l k = either old new index w es (next_phase old.phase w) refl k
by-act old new index (act.Finalise n) es l k = takes-notices old new index n es l k
by-act old new index a es l k = absurd k

pub drives_line : (old new : Progress) (index : ℕ) (a : Act) (reply : Reply) → IsLine C a → RunsLine old new index a reply → DrivesLine old new index a
drives_line old new index a reply l k = by-act old new index a k.entries l k.runs

-- what is left of a cycle leads to idle
pub left_leads : (from to : Phase) → LeadTo from (phases_left from) to → to ≡ at.Idle
left_leads at.Idle to l = l
left_leads at.Snapped to l = from-snapped to l
left_leads at.Contracted to l = from-contracted to l
left_leads at.Mirrored to l = from-mirrored to l
left_leads at.Weakened to l = from-weakened to l
left_leads at.Marked to l = from-marked to l
left_leads at.Swept to l = from-swept to l
left_leads at.Restored to l = from-restored to l

-- what is so in either case of a result
pub either_way : {A E P : Type 0} (r : Result A E) → OnOk r P → OnErr r P → P
either_way (Ok a) ok err = ok
either_way (Err e) ok err = err

-- the phases that were left
pub drives_left : (old new : Progress) (index : ℕ) → RunsWords old new index (phases_left old.phase) → DrivesLeft old new index
drives_left old new index k = record {
  entries = k.0;
  made = k.1.enters.made;
  left = λ s at_s line_is. record {
    places = subst (λ n. AreOnLine n C k.0) (sym line_is) (on-line index k.0 k.1.enters.places);
    events = subst (λ p. ArePhases s.candidates (phases_left p) k.0) (sym at_s.phase) (subst (λ n. ArePhases n (phases_left old.phase) k.0) (sym at_s.candidates) k.1.events);
  };
}
