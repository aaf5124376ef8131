-- Phases one after another: each runs in the phase in which its word is due, and what was run so far goes on by it.
use Rattle.std.proofs.Common.{◌≡◌, ℕ, suc, List, [], ◌∷◌, ◌++◌, length, Option, Some, None, refl, sym, ap, ◌∙◌, subst, append_assoc, arith}
use base.Growing.{prefix_refl}
use Rattle.joint_machine.specs.declared.names.Phase.{Phase}
use Rattle.joint_machine.specs.declared.names.Phase.TheVariants as at
use Rattle.joint_machine.specs.declared.names.PhaseWord.{PhaseWord}
use Rattle.joint_machine.specs.declared.names.PhaseWord.TheVariants as word
use Rattle.joint_machine.specs.declared.names.Thread.TheVariants.{C}
use Rattle.joint_machine.specs.declared.lines.Act.TheVariants as act
use Rattle.joint_machine.specs.declared.events.Entry.{Entry}
use Rattle.joint_machine.specs.declared.events.Reply.{Reply}
use Rattle.joint_machine.specs.HistoryLines.{caller_line}
use Rattle.joint_machine.specs.Phases.{next_phase, phases_left, phases_of}
use Rattle.joint_machine.proofs.Deciding.{some-same}
use Rattle.order_table.specs.Views.{known}
use Rattle.joint_history.specs.Knowing.{line_known}
use Rattle.bridge_cycle.specs.Composing.{PhasesMakeACycle, RestMakesACycle}
use Rattle.bridge_cycle.specs.Progress.{BreaksLine, BreaksWord, EndsWithReply, StopsForMemory, LeadTo, Progress, RunsWords, RunsPhases, last_reply}
use Rattle.bridge_cycle.specs.Words.{IsPartway, Lacks, next_word, to_come}
use Rattle.bridge_cycle.proofs.Making.{append_nil, runs_more}
use Rattle.bridge_cycle.proofs.Turned.{last_snoc}

-- where a phase's word leads
pub leads_one : (p q : Phase) (w : PhaseWord) (next : Phase) → next_phase p w ≡ Some next → LeadTo p (w ∷ []) q → q ≡ next
leads_one p q w next e l = l.2 ∙ some-same l.0 next (sym l.1 ∙ e)

-- what is to come before a phase and after it, but for the last one
pub record Goes (p q : Phase) : Type 0 where
  pub left : to_come p ≡ next_word p ∷ to_come q
  pub busy : q ≡ at.Idle → ⊥

pub goes : (p q : Phase) → (p ≡ at.Restored → ⊥) → LeadTo p (next_word p ∷ []) q → Goes p q
goes at.Idle q r l = subst (λ (z : Phase). Goes at.Idle z) (sym (leads_one at.Idle q word.Snap at.Snapped refl l)) (record { left = refl; busy = λ i. cc })
goes at.Snapped q r l = subst (λ (z : Phase). Goes at.Snapped z) (sym (leads_one at.Snapped q word.Contract at.Contracted refl l)) (record { left = refl; busy = λ i. cc })
goes at.Contracted q r l = subst (λ (z : Phase). Goes at.Contracted z) (sym (leads_one at.Contracted q word.Mirror at.Mirrored refl l)) (record { left = refl; busy = λ i. cc })
goes at.Mirrored q r l = subst (λ (z : Phase). Goes at.Mirrored z) (sym (leads_one at.Mirrored q word.Weaken at.Weakened refl l)) (record { left = refl; busy = λ i. cc })
goes at.Weakened q r l = subst (λ (z : Phase). Goes at.Weakened z) (sym (leads_one at.Weakened q word.Mark at.Marked refl l)) (record { left = refl; busy = λ i. cc })
goes at.Marked q r l = subst (λ (z : Phase). Goes at.Marked z) (sym (leads_one at.Marked q word.Sweep at.Swept refl l)) (record { left = refl; busy = λ i. cc })
goes at.Swept q r l = subst (λ (z : Phase). Goes at.Swept z) (sym (leads_one at.Swept q word.Restore at.Restored refl l)) (record { left = refl; busy = λ i. cc })
goes at.Restored q r l = absurd (r refl)

pub one_less : (p q : Phase) → Goes p q → length (to_come p) ≡ suc (length (to_come q))
one_less p q g = ap length g.left

-- the next phase is to come
pub next_comes : (p : Phase) → (ws : List PhaseWord) × (to_come p ≡ next_word p ∷ ws)
next_comes at.Idle = (to_come at.Snapped, refl)
next_comes at.Snapped = (to_come at.Contracted, refl)
next_comes at.Contracted = (to_come at.Mirrored, refl)
next_comes at.Mirrored = (to_come at.Weakened, refl)
next_comes at.Weakened = (to_come at.Marked, refl)
next_comes at.Marked = (to_come at.Swept, refl)
next_comes at.Swept = (to_come at.Restored, refl)
next_comes at.Restored = ([], refl)

pub runs_on : (old mid new : Progress) (index : ℕ) (ws vs : List PhaseWord) → RunsWords old mid index ws → RunsWords mid new index vs → RunsWords old new index (ws ++ vs)
runs_on old mid new index ws vs a b = (a.0 ++ b.0, runs_more old mid new index ws vs a.0 b.0 a.1 b.1)

-- no phase was run so far
pub runs_nothing : (d : Progress) (index : ℕ) → RunsWords d d index []
runs_nothing d index = (
  [],
  record {
    enters = record {
      made = record { own_more = sym (append_nil (line_known d.view (caller_line C))); more = λ i. prefix_refl (known d.view i); above = tt };
      places = tt;
      cycle = refl;
      candidates = refl;
    };
    events = refl;
    leads = refl;
  },
)

abbrev pub partway_none : (d : Progress) (index : ℕ) → IsPartway d d index
partway_none d index = record { run = []; all = refl; runs = runs_nothing d index }

-- an idle driver has no phase left
pub idle_runs : (d : Progress) (index : ℕ) → d.phase ≡ at.Idle → RunsWords d d index (phases_left d.phase)
idle_runs d index idle = subst (λ (p : Phase). RunsWords d d index (phases_left p)) (sym idle) (runs_nothing d index)

-- one phase more
pub record IsOneFurther (old mid new : Progress) (index : ℕ) (p : IsPartway old mid index) : Type 0 where
  pub goes : Goes mid.phase new.phase
  pub now : IsPartway old new index
  pub longer : now.run ≡ p.run ++ next_word mid.phase ∷ []

pub partway_more : (old mid new : Progress) (index : ℕ) (reply : Reply) (p : IsPartway old mid index) → (mid.phase ≡ at.Restored → ⊥)
    → EndsWithReply mid new index (next_word mid.phase ∷ []) reply → IsOneFurther old mid new index p
partway_more old mid new index reply p n a =
    let g = goes mid.phase new.phase n a.runs.leads in
    record {
      goes = g;
      now = record {
        run = p.run ++ next_word mid.phase ∷ [];
        all = p.all ∙ (ap (λ ws. p.run ++ ws) g.left ∙ sym (append_assoc p.run (next_word mid.phase ∷ []) (to_come new.phase)));
        runs = runs_on old mid new index p.run (next_word mid.phase ∷ []) p.runs (a.entries, a.runs);
      };
      longer = refl;
    }

-- phases were run, and the next one found no memory
abbrev pub partway_lacks : (old mid new : Progress) (index : ℕ) → IsPartway old mid index → Lacks mid new index (next_word mid.phase) → StopsForMemory old new index (to_come old.phase)
partway_lacks old mid new index p lacks =
    let left = next_comes mid.phase in
    record {
      run = p.run;
      failed = next_word mid.phase;
      left = left.0;
      all = p.all ∙ ap (λ ws. p.run ++ ws) left.1;
      takes = lacks.takes;
      before = mid;
      runs = p.runs;
      gives_up = lacks.gives_up;
      idle = lacks.idle;
    }

-- the last phase, which is one entry
snoc_of : (es : List Entry) → length es ≡ 1 → (e : Entry) × (es ≡ e ∷ [])
snoc_of [] l = absurd (omega (arith, l))
snoc_of (e ∷ []) l = (e, refl)
snoc_of (e ∷ f ∷ es) l = absurd (omega (arith, l))

pub closes_now : (old mid new : Progress) (index : ℕ) (reply : Reply) → IsPartway old mid index → mid.phase ≡ at.Restored → EndsWithReply mid new index (next_word mid.phase ∷ []) reply
    → EndsWithReply old new index (to_come old.phase) reply
closes_now old mid new index reply p e ends =
    let a = subst (λ (z : Phase). EndsWithReply mid new index (next_word z ∷ []) reply) e ends in
    let own = a.runs.events in
    let one = snoc_of own.0 own.3.count in
    let only : a.entries ≡ one.0 ∷ [] = own.2 ∙ (ap (λ es. own.0 ++ es) own.4 ∙ (append_nil own.0 ∙ one.1)) in
    let all : to_come old.phase ≡ p.run ++ word.Resolve ∷ [] = p.all ∙ ap (λ z. p.run ++ to_come z) e in
    record {
      entries = p.runs.0 ++ a.entries;
      runs = subst (λ (ws : List PhaseWord). RunsPhases old new index ws (p.runs.0 ++ a.entries)) (sym all) (runs_more old mid new index p.run (word.Resolve ∷ []) p.runs.0 a.entries p.runs.1 a.runs);
      last = a.last ∙ (ap last_reply only ∙ sym (ap (λ es. last_reply (p.runs.0 ++ es)) only ∙ last_snoc p.runs.0 one.0));
    }

-- what a line's word asks for: that phase, or where the driver is idle the next cycle
pub word_due : (p : Phase) (w : PhaseWord) → w ≡ next_word p → phases_of w ≡ next_word p ∷ []
word_due p w is = ap phases_of is ∙ by p
  where
    by : (p : Phase) → phases_of (next_word p) ≡ next_word p ∷ []
    by at.Idle = refl
    by at.Snapped = refl
    by at.Contracted = refl
    by at.Mirrored = refl
    by at.Weakened = refl
    by at.Marked = refl
    by at.Swept = refl
    by at.Restored = refl

pub cycle_due : (p : Phase) (w : PhaseWord) → w ≡ word.Cycle → (next_phase p w ≡ None → ⊥) → phases_of w ≡ to_come p
cycle_due p w is n = ap phases_of is ∙ by p (subst (λ (v : PhaseWord). next_phase p v ≡ None → ⊥) is n)
  where
    by : (p : Phase) → (next_phase p word.Cycle ≡ None → ⊥) → phases_of word.Cycle ≡ to_come p
    by at.Idle n = refl
    by at.Snapped n = absurd (n refl)
    by at.Contracted n = absurd (n refl)
    by at.Mirrored n = absurd (n refl)
    by at.Weakened n = absurd (n refl)
    by at.Marked n = absurd (n refl)
    by at.Swept n = absurd (n refl)
    by at.Restored n = absurd (n refl)

-- a line with a word that isn't refused found no memory
pub line_stops : (old new : Progress) (index : ℕ) (w : PhaseWord) (ws : List PhaseWord) → (next_phase old.phase w ≡ None → ⊥) → phases_of w ≡ ws → StopsForMemory old new index ws
    → BreaksLine old new index (act.PhaseLine w)
line_stops old new index w ws some is a = by (next_phase old.phase w) some
  where
    by : (next : Option Phase) → (next ≡ None → ⊥) → BreaksWord old new index w next
    by None n = absurd (n refl)
    by (Some p) n = subst (λ (vs : List PhaseWord). StopsForMemory old new index vs) (sym is) a

-- one phase found no memory
pub one_stops : (old new : Progress) (index : ℕ) (w : PhaseWord) → Lacks old new index w → StopsForMemory old new index (w ∷ [])
one_stops old new index w lacks = record {
  run = [];
  failed = w;
  left = [];
  all = refl;
  takes = lacks.takes;
  before = old;
  runs = runs_nothing old index;
  gives_up = lacks.gives_up;
  idle = lacks.idle;
}

-- a whole cycle
snapped_now : (p q : Phase) → p ≡ at.Idle → LeadTo p (word.Snap ∷ []) q → q ≡ at.Snapped
snapped_now p q e l = leads_one p q word.Snap at.Snapped (ap (λ z. next_phase z word.Snap) e) l

-- eight phases, one by one
pub eight_phases : PhasesMakeACycle
eight_phases a b c d e f g h i index p q r s t u v w =
    let two = runs_on a b c index (word.Snap ∷ []) (word.Contract ∷ []) p q in
    let three = runs_on a c d index (word.Snap ∷ word.Contract ∷ []) (word.Mirror ∷ []) two r in
    let four = runs_on a d e index (word.Snap ∷ word.Contract ∷ word.Mirror ∷ []) (word.Weaken ∷ []) three s in
    let five = runs_on a e f index (word.Snap ∷ word.Contract ∷ word.Mirror ∷ word.Weaken ∷ []) (word.Mark ∷ []) four t in
    let six = runs_on a f g index (word.Snap ∷ word.Contract ∷ word.Mirror ∷ word.Weaken ∷ word.Mark ∷ []) (word.Sweep ∷ []) five u in
    let seven = runs_on a g h index (word.Snap ∷ word.Contract ∷ word.Mirror ∷ word.Weaken ∷ word.Mark ∷ word.Sweep ∷ []) (word.Restore ∷ []) six v in
    runs_on a h i index (word.Snap ∷ word.Contract ∷ word.Mirror ∷ word.Weaken ∷ word.Mark ∷ word.Sweep ∷ word.Restore ∷ []) (word.Resolve ∷ []) seven w

-- a snap, and the phases that are left
pub rest_makes_a_cycle : RestMakesACycle
rest_makes_a_cycle old mid new index idle a b =
    let at_snapped = snapped_now old.phase mid.phase idle a.1.leads in
    runs_on old mid new index (word.Snap ∷ []) (phases_left at.Snapped) a (subst (λ (p : Phase). RunsWords mid new index (phases_left p)) at_snapped b)
