-- Held lines end each cycle that they open. Each word's phases lead from the driver's phase to the next one, the phases
-- left at the end lead to the idle one, and of all events only those of the first and the last phase open or end a
-- cycle: so behind a snap the resolve comes before the next snap, and nothing is abandoned.
use Rattle.std.proofs.Common.{◌≡◌, ◌⊎◌, inl, inr, ℕ, List, [], ◌∷◌, ◌++◌, Option, Some, None, refl, sym, ◌∙◌, ap, subst, append_assoc}
use Rattle.std.specs.Prelude.{unwrap_or}
use Rattle.std.proofs.lemmas.List.{append-nil}
use Rattle.std.proofs.lemmas.Option.{same_Some}
use Rattle.joint_machine.specs.declared.names.Thread.{Thread}
use Rattle.joint_machine.specs.declared.names.Thread.TheVariants.{C}
use Rattle.joint_machine.specs.declared.names.Phase.{Phase}
use Rattle.joint_machine.specs.declared.names.Phase.TheVariants as at
use Rattle.joint_machine.specs.declared.names.PhaseWord.{PhaseWord}
use Rattle.joint_machine.specs.declared.names.PhaseWord.TheVariants as word
use Rattle.joint_machine.specs.declared.lines.Act.{Act}
use Rattle.joint_machine.specs.declared.lines.Act.TheVariants as act
use Rattle.joint_machine.specs.declared.events.Op.{Op}
use Rattle.joint_machine.specs.declared.events.Op.TheVariants as op
use Rattle.joint_machine.specs.declared.events.Reply.{Reply}
use Rattle.joint_machine.specs.declared.events.Reply.TheVariants as says
use Rattle.joint_machine.specs.declared.events.Entry.{Entry}
use Rattle.joint_machine.specs.Phases.{next_phase, phases_left, phases_of, IsEventOf, IsClear, AreEach, AreTimes, AreMarkAfterSweep, ArePhase, candidates_after, ArePhases}
use Rattle.script_laws.specs.Holding.{next_event, AreEventsAfter, Standing, AreWord, AreEvents, standing_after, HoldsLines, HoldsInOrder, HoldsPerThread, opening_standing, numbered_from}
use Rattle.script_laws.specs.Holding.{lines_of, entries_by}
use Rattle.script_laws.specs.Closing.{ResolvesLater, ResolveComes, CycleCloses, AllCyclesClose}

-- neither opens nor ends a cycle
abbrev IsCalm : Op → Type 0
IsCalm (op.Snap k) = ⊥
IsCalm (op.Resolve k) = ⊥
IsCalm (op.Abandon k) = ⊥
IsCalm o = Unit {0}

abbrev AreCalm : List Entry → Type 0
AreCalm [] = Unit {0}
AreCalm (e ∷ es) = IsCalm e.made.op × AreCalm es

-- the entries end each cycle, and the one that is open in the phase
pub record OpenEnds (es : List Entry) : Type 0 where
  pub all : AllCyclesClose es
  pub comes : ResolveComes es

abbrev pub EndsFrom : Phase → List Entry → Type 0
EndsFrom at.Idle es = AllCyclesClose es
EndsFrom p es = OpenEnds es

calm-ended : (o : Op) (es : List Entry) → IsCalm o → CycleCloses o es
calm-ended (op.Snap k) es c = absurd c
calm-ended (op.Abandon k) es c = absurd c
calm-ended o es c = tt

calm-resolves : (o : Op) (L : Type 0) → IsCalm o → L → ResolvesLater o L
calm-resolves (op.Snap k) L c l = absurd c
calm-resolves (op.Resolve k) L c l = tt
calm-resolves o L c l = l

calm-all : (own rest : List Entry) → AreCalm own → AllCyclesClose rest → AllCyclesClose (own ++ rest)
calm-all [] rest c a = a
calm-all (e ∷ own) rest c a = (calm-ended e.made.op (own ++ rest) c.0, calm-all own rest c.1 a)

calm-comes : (own rest : List Entry) → AreCalm own → ResolveComes rest → ResolveComes (own ++ rest)
calm-comes [] rest c a = a
calm-comes (e ∷ own) rest c a = calm-resolves e.made.op (ResolveComes (own ++ rest)) c.0 (calm-comes own rest c.1 a)

calm-open : (own rest : List Entry) → AreCalm own → OpenEnds rest → OpenEnds (own ++ rest)
calm-open own rest c a = record { all = calm-all own rest c a.all; comes = calm-comes own rest c a.comes }

calm-from : (p : Phase) (own rest : List Entry) → AreCalm own → EndsFrom p rest → EndsFrom p (own ++ rest)
calm-from at.Idle own rest c a = calm-all own rest c a
calm-from at.Snapped own rest c a = calm-open own rest c a
calm-from at.Contracted own rest c a = calm-open own rest c a
calm-from at.Mirrored own rest c a = calm-open own rest c a
calm-from at.Weakened own rest c a = calm-open own rest c a
calm-from at.Marked own rest c a = calm-open own rest c a
calm-from at.Swept own rest c a = calm-open own rest c a
calm-from at.Restored own rest c a = calm-open own rest c a

-- phases between the first and the last are calm
abbrev IsMiddle : PhaseWord → Type 0
IsMiddle word.Snap = ⊥
IsMiddle word.Resolve = ⊥
IsMiddle w = Unit {0}

event-calm : (w : PhaseWord) (o : Op) → IsMiddle w → IsEventOf w o → IsCalm o
event-calm word.Contract (op.Contract k) m p = tt
event-calm word.Mirror (op.Mirror k) m p = tt
event-calm word.Weaken (op.Weaken h) m p = tt
event-calm word.Mark op.Begin m p = tt
event-calm word.Sweep op.Sweep m p = tt
event-calm word.Restore (op.Restore h) m p = tt
event-calm word.Snap o m p = absurd m
event-calm word.Resolve o m p = absurd m
event-calm w o m p = absurd p

each-calm : (w : PhaseWord) (es : List Entry) → IsMiddle w → AreEach w es → AreCalm es
each-calm w [] m a = tt
each-calm w (e ∷ es) m a = (event-calm w e.made.op m a.0, each-calm w es m a.1)

clear-calm : (o : Op) → IsClear o → IsCalm o
clear-calm (op.Clear k) p = tt
clear-calm o p = absurd p

calm-append : (xs ys : List Entry) → AreCalm xs → AreCalm ys → AreCalm (xs ++ ys)
calm-append [] ys a b = b
calm-append (x ∷ xs) ys a b = (a.0, calm-append xs ys a.1 b)

mark-calm : (es : List Entry) → AreTimes word.Mark 1 es ⊎ AreMarkAfterSweep es → AreCalm es
mark-calm es (inl a) = each-calm word.Mark es tt a.each
mark-calm es (inr a) = subst AreCalm (sym a.4) (subst IsCalm (sym a.5) tt, (event-calm word.Mark a.1.made.op tt a.7, tt))

phase-calm : (n : ℕ) (w : PhaseWord) (es : List Entry) → IsMiddle w → ArePhase n w es → AreCalm es
phase-calm n word.Weaken es m a = each-calm word.Weaken es tt a.each
phase-calm n word.Mark es m a = mark-calm es a
phase-calm n word.Restore es m a = subst AreCalm (sym a.2) (calm-append a.0 (a.1 ∷ []) (each-calm word.Restore a.0 tt a.3.each) (clear-calm a.1.made.op a.4, tt))
phase-calm n word.Cycle es m a = each-calm word.Cycle es tt a.each
phase-calm n word.Contract es m a = each-calm word.Contract es tt a.each
phase-calm n word.Mirror es m a = each-calm word.Mirror es tt a.each
phase-calm n word.Sweep es m a = each-calm word.Sweep es tt a.each
phase-calm n word.Snap es m a = absurd m
phase-calm n word.Resolve es m a = absurd m

-- the first and the last phase
snap-ends : (es rest : List Entry) → AreTimes word.Snap 1 es → OpenEnds rest → AllCyclesClose (es ++ rest)
snap-ends [] rest a o = absurd (let z = a.count in cc)
snap-ends (e ∷ []) rest a o = (snapped e.made.op a.each.0, o.all)
  where
    snapped : (p : Op) → IsEventOf word.Snap p → CycleCloses p rest
    snapped (op.Snap k) q = o.comes
    snapped p q = absurd q
snap-ends (e ∷ f ∷ es) rest a o = absurd (let z = a.count in cc)

resolve-ends : (es rest : List Entry) → AreTimes word.Resolve 1 es → AllCyclesClose rest → OpenEnds (es ++ rest)
resolve-ends [] rest a o = absurd (let z = a.count in cc)
resolve-ends (e ∷ []) rest a o = record { all = (ended e.made.op a.each.0, o); comes = comes e.made.op a.each.0 }
  where
    ended : (p : Op) → IsEventOf word.Resolve p → CycleCloses p rest
    ended (op.Resolve k) q = tt
    ended p q = absurd q

    comes : (p : Op) → IsEventOf word.Resolve p → ResolvesLater p (ResolveComes rest)
    comes (op.Resolve k) q = tt
    comes p q = absurd q
resolve-ends (e ∷ f ∷ es) rest a o = absurd (let z = a.count in cc)

no-phase : (n : ℕ) (es : List Entry) → ArePhase n word.Cycle es → ⊥
no-phase n [] a = let z = a.count in cc
no-phase n (e ∷ es) a = a.each.0

-- from each phase to the next
phase-ends : (n : ℕ) (p : Phase) (w : PhaseWord) (q : Phase) (es rest : List Entry) → next_phase p w ≡ Some q → ArePhase n w es → EndsFrom q rest → EndsFrom p (es ++ rest)
phase-ends n at.Idle word.Snap q es rest e a b = snap-ends es rest a (subst (λ (z : Phase). EndsFrom z rest) (sym (same_Some _ _ e)) b)
phase-ends n at.Snapped word.Contract q es rest e a b = calm-open es rest (phase-calm n word.Contract es tt a) (subst (λ (z : Phase). EndsFrom z rest) (sym (same_Some _ _ e)) b)
phase-ends n at.Contracted word.Mirror q es rest e a b = calm-open es rest (phase-calm n word.Mirror es tt a) (subst (λ (z : Phase). EndsFrom z rest) (sym (same_Some _ _ e)) b)
phase-ends n at.Mirrored word.Weaken q es rest e a b = calm-open es rest (phase-calm n word.Weaken es tt a) (subst (λ (z : Phase). EndsFrom z rest) (sym (same_Some _ _ e)) b)
phase-ends n at.Weakened word.Mark q es rest e a b = calm-open es rest (phase-calm n word.Mark es tt a) (subst (λ (z : Phase). EndsFrom z rest) (sym (same_Some _ _ e)) b)
phase-ends n at.Marked word.Sweep q es rest e a b = calm-open es rest (phase-calm n word.Sweep es tt a) (subst (λ (z : Phase). EndsFrom z rest) (sym (same_Some _ _ e)) b)
phase-ends n at.Swept word.Restore q es rest e a b = calm-open es rest (phase-calm n word.Restore es tt a) (subst (λ (z : Phase). EndsFrom z rest) (sym (same_Some _ _ e)) b)
phase-ends n at.Restored word.Resolve q es rest e a b = resolve-ends es rest a (subst (λ (z : Phase). EndsFrom z rest) (sym (same_Some _ _ e)) b)
phase-ends n p word.Cycle q es rest e a b = absurd (no-phase n es a)
phase-ends n p w q es rest e a b = absurd (cc)

-- words that lead from one phase to another
abbrev Leads : Phase → List PhaseWord → Phase → Type 0
Leads p [] q = p ≡ q
Leads p (w ∷ ws) q = (r : Phase) × (next_phase p w ≡ Some r) × Leads r ws q

phases-end : (n : ℕ) (p : Phase) (ws : List PhaseWord) (q : Phase) (es rest : List Entry) → Leads p ws q → ArePhases n ws es → EndsFrom q rest → EndsFrom p (es ++ rest)
phases-end n p [] q es rest l a b = subst (λ (z : List Entry). EndsFrom p (z ++ rest)) (sym a) (subst (λ (z : Phase). EndsFrom z rest) (sym l) b)
phases-end n p (w ∷ ws) q es rest l a b = subst (λ (z : List Entry). EndsFrom p z) (sym (append_assoc a.0 a.1 rest) ∙ ap (λ (z : List Entry). z ++ rest) (sym a.2))
    (phase-ends n p w l.0 a.0 (a.1 ++ rest) l.1 a.3 (phases-end (candidates_after n a.0) l.0 ws q a.1 rest l.2 a.4 b))

idle-lead : Leads at.Idle [] at.Idle
idle-lead = refl

restored-lead : Leads at.Restored (phases_left at.Restored) at.Idle
restored-lead = (at.Idle, refl, idle-lead)

swept-lead : Leads at.Swept (phases_left at.Swept) at.Idle
swept-lead = (at.Restored, refl, restored-lead)

marked-lead : Leads at.Marked (phases_left at.Marked) at.Idle
marked-lead = (at.Swept, refl, swept-lead)

weakened-lead : Leads at.Weakened (phases_left at.Weakened) at.Idle
weakened-lead = (at.Marked, refl, marked-lead)

mirrored-lead : Leads at.Mirrored (phases_left at.Mirrored) at.Idle
mirrored-lead = (at.Weakened, refl, weakened-lead)

contracted-lead : Leads at.Contracted (phases_left at.Contracted) at.Idle
contracted-lead = (at.Mirrored, refl, mirrored-lead)

snapped-lead : Leads at.Snapped (phases_left at.Snapped) at.Idle
snapped-lead = (at.Contracted, refl, contracted-lead)

left-lead : (p : Phase) → Leads p (phases_left p) at.Idle
left-lead at.Idle = refl
left-lead at.Restored = restored-lead
left-lead at.Swept = swept-lead
left-lead at.Marked = marked-lead
left-lead at.Weakened = weakened-lead
left-lead at.Mirrored = mirrored-lead
left-lead at.Contracted = contracted-lead
left-lead at.Snapped = snapped-lead

word-leads : (p : Phase) (w : PhaseWord) (q : Phase) → next_phase p w ≡ Some q → Leads p (phases_of w) q
word-leads at.Idle word.Cycle q e = subst (Leads at.Idle (phases_of word.Cycle)) (same_Some _ _ e) (at.Snapped, refl, snapped-lead)
word-leads p word.Cycle q e = absurd (cc)
word-leads p word.Snap q e = (q, e, refl)
word-leads p word.Contract q e = (q, e, refl)
word-leads p word.Mirror q e = (q, e, refl)
word-leads p word.Weaken q e = (q, e, refl)
word-leads p word.Mark q e = (q, e, refl)
word-leads p word.Sweep q e = (q, e, refl)
word-leads p word.Restore q e = (q, e, refl)
word-leads p word.Resolve q e = (q, e, refl)

word-ends : (s : Standing) (w : PhaseWord) (next : Option Phase) (es rest : List Entry) → next_phase s.phase w ≡ next
    → AreWord s w next es → EndsFrom (unwrap_or next s.phase) rest → EndsFrom s.phase (es ++ rest)
word-ends s w None es rest e a b = calm-from s.phase es rest (subst AreCalm (sym a.all) (subst IsCalm (sym a.refuses) tt, tt)) b
word-ends s w (Some q) es rest e a b = phases-end s.candidates s.phase (phases_of w) q es rest (word-leads s.phase w q e) a b

-- another operation's events are calm
next-calm : (a : Act) (rs : List Reply) (o : Op) → next_event a rs ≡ Some o → IsCalm o
next-calm a rs (op.Snap k) e = absurd (never a rs e)
  where
    never : (a : Act) (rs : List Reply) → next_event a rs ≡ Some (op.Snap k) → ⊥
    never (act.Bridge v kind n sort f) (says.Made p h ∷ []) e = cc
    never (act.Pass v x) (says.H h ∷ []) e = cc
    never (act.Surface v x) (says.Gripped p h sort f ∷ []) e = cc
    never (act.Surface v x) (says.Gripped p h sort f ∷ says.New m ∷ []) e = cc
    never (act.Surface v x) (says.Gripped p h sort f ∷ reply ∷ []) e = cc
    never (act.Dispose v) (says.H h ∷ []) e = cc
    never act.Collect (says.Mark j ∷ []) e = cc
    never a [] e = cc
    never a rs e = cc
next-calm a rs (op.Resolve k) e = absurd (never a rs e)
  where
    never : (a : Act) (rs : List Reply) → next_event a rs ≡ Some (op.Resolve k) → ⊥
    never (act.Bridge v kind n sort f) (says.Made p h ∷ []) e = cc
    never (act.Pass v x) (says.H h ∷ []) e = cc
    never (act.Surface v x) (says.Gripped p h sort f ∷ []) e = cc
    never (act.Surface v x) (says.Gripped p h sort f ∷ says.New m ∷ []) e = cc
    never (act.Surface v x) (says.Gripped p h sort f ∷ reply ∷ []) e = cc
    never (act.Dispose v) (says.H h ∷ []) e = cc
    never act.Collect (says.Mark j ∷ []) e = cc
    never a [] e = cc
    never a rs e = cc
next-calm a rs (op.Abandon k) e = absurd (never a rs e)
  where
    never : (a : Act) (rs : List Reply) → next_event a rs ≡ Some (op.Abandon k) → ⊥
    never (act.Bridge v kind n sort f) (says.Made p h ∷ []) e = cc
    never (act.Pass v x) (says.H h ∷ []) e = cc
    never (act.Surface v x) (says.Gripped p h sort f ∷ []) e = cc
    never (act.Surface v x) (says.Gripped p h sort f ∷ says.New m ∷ []) e = cc
    never (act.Surface v x) (says.Gripped p h sort f ∷ reply ∷ []) e = cc
    never (act.Dispose v) (says.H h ∷ []) e = cc
    never act.Collect (says.Mark j ∷ []) e = cc
    never a [] e = cc
    never a rs e = cc
next-calm a rs o e = tt

after-calm : (a : Act) (rs : List Reply) (es : List Entry) → AreEventsAfter a rs es → AreCalm es
after-calm a rs [] h = tt
after-calm a rs (e ∷ es) h = (next-calm a rs e.made.op h.0, after-calm a (rs ++ e.made.reply ∷ []) es h.1)

line-ends : (s : Standing) (number : ℕ) (a : Act) (es rest : List Entry) → AreEvents s a es → EndsFrom (standing_after s number a es).phase rest → EndsFrom s.phase (es ++ rest)
line-ends s number (act.PhaseLine w) es rest h b = word-ends s w (next_phase s.phase w) es rest refl h b
line-ends s number (act.Finalise n) es rest h b = calm-from s.phase es rest (after-calm (act.Finalise n) [] es h) b
line-ends s number a es rest h b = calm-from s.phase es rest (after-calm a [] es h) b

pub lines-end : (lines : List (ℕ × (Thread × Act))) (s : Standing) (es : List Entry) → HoldsLines s lines es → EndsFrom s.phase es
lines-end [] s es h = subst (EndsFrom s.phase) (append-nil es) (phases-end s.candidates s.phase (phases_left s.phase) at.Idle es [] (left-lead s.phase) h.events tt)
lines-end (line ∷ lines) s es h = subst (EndsFrom s.phase) (sym h.2) (line-ends s line.0 line.1.1 h.0 h.1 h.3.events (lines-end lines (standing_after s line.0 line.1.1 h.0) h.1 h.4))

pub held-end : (script : List (Thread × Act)) (es : List Entry) → HoldsInOrder script es → AllCyclesClose es
held-end script es h = lines-end (numbered_from 1 script) opening_standing es h

pub held-thread-end : (script : List (Thread × Act)) (es : List Entry) → HoldsPerThread script es → AllCyclesClose (entries_by C es)
held-thread-end script es h = lines-end (lines_of C (numbered_from 1 script)) opening_standing (entries_by C es) (h C)
