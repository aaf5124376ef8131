-- The entries of each line, and of all lines, are the same in two lists that hold them. Two entries of one phase are
-- one, as the state has one event of it; a `mark` sweeps exactly where a marking is open; of two refusals on one line
-- both name the driver's phase; and the events of another operation go by the replies so far.
use Rattle.std.proofs.Common.{◌≡◌, ◌⊎◌, inl, inr, ℕ, List, [], ◌∷◌, ◌++◌, Option, Some, None, refl, sym, ◌∙◌, ap, subst}
use Rattle.std.proofs.lemmas.List.{append-nil}
use Rattle.std.proofs.lemmas.Option.{same_Some}
use Rattle.joint_machine.specs.declared.names.Thread.{Thread}
use Rattle.joint_machine.specs.declared.names.Thread.TheVariants.{M, P, C}
use Rattle.joint_machine.specs.declared.names.Phase.{Phase}
use Rattle.joint_machine.specs.declared.names.PhaseWord.{PhaseWord}
use Rattle.joint_machine.specs.declared.names.PhaseWord.TheVariants as word
use Rattle.joint_machine.specs.declared.lines.Act.{Act}
use Rattle.joint_machine.specs.declared.lines.Act.TheVariants as act
use Rattle.joint_machine.specs.declared.events.Op.{Op}
use Rattle.joint_machine.specs.declared.events.Op.TheVariants as op
use Rattle.joint_machine.specs.declared.events.Reply.{Reply}
use Rattle.joint_machine.specs.declared.events.Reply.TheVariants as says
use Rattle.joint_machine.specs.declared.events.Entry.{Entry}
use Rattle.joint_machine.specs.Control.{Stand, weakening, DriverAllows}
use Rattle.joint_machine.specs.Histories.{NumberedFrom}
use Rattle.joint_machine.specs.Lines.{IsLine}
use Rattle.joint_machine.specs.Linked.{Linkage}
use Rattle.joint_machine.specs.Replaying.{replayed}
use Rattle.joint_machine.specs.PeerReplay.{PeerReplay, Marking, begun, SweepAllows}
use Rattle.joint_machine.specs.Told.{Told, Noted}
use Rattle.joint_machine.specs.Phases.{next_phase, phases_left, phases_of, IsEventOf, AreTimes, AreMarkAfterSweep, AreRestores, ArePhase, candidates_after, ArePhases, NamesPhase, AreRefusal}
use Rattle.script_laws.specs.Holding.{AreEventsAfter, Standing, AreWord, AreEvents, standing_after, HoldsLines}
use Rattle.script_laws.proofs.OneNote.{Agree}
use Rattle.known_laws.specs.PastEntries.{entries}
use Rattle.known_laws.proofs.Retelling.{AllPlain}
use Rattle.script_laws.proofs.Sharing.{OneOn, Shares, Comes, comes-of, agree, next-no, one-op, one-phase, one-clear, shares-none, shares-cons, shares-then, shares-by, times-share}

-- a `mark` sweeps a peer thread's marking exactly where one is open
begin-none : (s : Linkage) (m : Option Marking) (c : Option ℕ) (r : Reply) (x : Told) → r ≡ (begun s.peer m C).reply
    → DriverAllows s.control.stand s.managed.managed s.peer.peers.issued op.Begin r c x → m ≡ None
begin-none s None c r x e a = refl
begin-none s (Some mk) c r x e a = absurd (refused s.control.stand (subst (λ z. DriverAllows s.control.stand s.managed.managed s.peer.peers.issued op.Begin z c x) e a))
  where
    refused : (stand : Stand) → DriverAllows stand s.managed.managed s.peer.peers.issued op.Begin (says.MarkOpen record { 0 = mk.number }) c x → ⊥
    refused (weakening o count weakened swept) a = a
    refused stand a = a

swept-none : (s : PeerReplay) (m : Option Marking) (x : Told) → SweepAllows s m C x → m ≡ None → ⊥
swept-none s None x a n = a
swept-none s (Some mk) x a n = cc

no-mark : (s : Linkage) (l l' : ℕ) (o o' : Op) (r r' : Reply) (c c' : Option ℕ) (x y : Told) → IsEventOf word.Mark o → o' ≡ op.Sweep → Comes s l o r c x → Comes s l' o' r' c' y → ⊥
no-mark s l l' op.Begin op.Sweep r r' c c' x y p q a b =
    swept-none s.peer s.peer.marking y b.lawful.allowed (begin-none s s.peer.marking c r x a.lawful.replies a.order)
no-mark s l l' op.Begin o' r r' c c' x y p q a b = cc
no-mark s l l' o o' r r' c c' x y p q a b = p

one-not : (number : ℕ) (e e' : Entry) → IsEventOf word.Mark e.made.op → e'.made.op ≡ op.Sweep → OneOn number C e e'
one-not number e e' p q s n n' d i i' u u' a b =
    absurd (no-mark s e.made.index e'.made.index e.made.op e'.made.op e.made.reply e'.made.reply e.made.cites e'.made.cites n.told n'.told p q
    (comes-of s n e i u.caller a) (comes-of s n' e' i' u'.caller b))

one-not-back : (number : ℕ) (e e' : Entry) → e.made.op ≡ op.Sweep → IsEventOf word.Mark e'.made.op → OneOn number C e e'
one-not-back number e e' q p s n n' d i i' u u' a b =
    absurd (no-mark s e'.made.index e.made.index e'.made.op e.made.op e'.made.reply e.made.reply e'.made.cites e.made.cites n'.told n.told p q
    (comes-of s n' e' i' u'.caller b) (comes-of s n e i u.caller a))

mark-differs : (o o' : Op) → IsEventOf word.Mark o → o' ≡ op.Sweep → o ≡ o' → ⊥
mark-differs op.Begin o' p q e = cc
mark-differs o o' p q e = p

first-shares : (number : ℕ) (es : List Entry) (e' : Entry) (es' : List Entry) → AreTimes word.Mark 1 es → e'.made.op ≡ op.Sweep → Shares number C es (e' ∷ es')
first-shares number [] e' es' a q = absurd (let z = a.count in cc)
first-shares number (e ∷ es) e' es' a q = shares-cons number C e e' es es' (one-not number e e' a.each.0 q)
    (λ same. absurd (mark-differs e.made.op e'.made.op a.each.0 q (ap (λ (x : Entry). x.made.op) same)))

first-shares-back : (number : ℕ) (e : Entry) (es es' : List Entry) → e.made.op ≡ op.Sweep → AreTimes word.Mark 1 es' → Shares number C (e ∷ es) es'
first-shares-back number e es [] q a = absurd (let z = a.count in cc)
first-shares-back number e es (e' ∷ es') q a = shares-cons number C e e' es es' (one-not-back number e e' q a.each.0)
    (λ same. absurd (mark-differs e'.made.op e.made.op a.each.0 q (sym (ap (λ (x : Entry). x.made.op) same))))

one-sweep : (number : ℕ) (e e' : Entry) → e.made.op ≡ op.Sweep → e'.made.op ≡ op.Sweep → OneOn number C e e'
one-sweep number e e' p p' = one-op number C e e' (p ∙ sym p') (subst (λ (o : Op). Agree o e.made.reply e'.made.reply) (sym p) tt)

mark-shares : (number : ℕ) (es es' : List Entry) → AreTimes word.Mark 1 es ⊎ AreMarkAfterSweep es → AreTimes word.Mark 1 es' ⊎ AreMarkAfterSweep es' → Shares number C es es'
mark-shares number es es' (inl a) (inl b) = times-share number word.Mark 1 es es' a b
mark-shares number es es' (inl a) (inr b) = shares-by number C es es' es (b.0 ∷ b.1 ∷ []) refl b.4 (first-shares number es b.0 (b.1 ∷ []) a b.5)
mark-shares number es es' (inr a) (inl b) = shares-by number C es es' (a.0 ∷ a.1 ∷ []) es' a.4 refl (first-shares-back number a.0 (a.1 ∷ []) es' a.5 b)
mark-shares number es es' (inr a) (inr b) = shares-by number C es es' (a.0 ∷ a.1 ∷ []) (b.0 ∷ b.1 ∷ []) a.4 b.4
    (shares-cons number C a.0 b.0 (a.1 ∷ []) (b.1 ∷ []) (one-sweep number a.0 b.0 a.5 b.5)
    (λ e. shares-cons number C a.1 b.1 [] [] (one-phase number word.Mark a.1 b.1 a.7 b.7) (λ f. shares-none number C)))

restores-share : (number n : ℕ) (es es' : List Entry) → AreRestores n es → AreRestores n es' → Shares number C es es'
restores-share number n es es' a b = shares-by number C es es' (a.0 ++ a.1 ∷ []) (b.0 ++ b.1 ∷ []) a.2 b.2
    (shares-then number C a.0 b.0 (a.1 ∷ []) (b.1 ∷ []) (times-share number word.Restore n a.0 b.0 a.3 b.3)
    (λ e. shares-cons number C a.1 b.1 [] [] (one-clear number a.1 b.1 a.4 b.4) (λ f. shares-none number C)))

phase-shares : (number n : ℕ) (w : PhaseWord) (es es' : List Entry) → ArePhase n w es → ArePhase n w es' → Shares number C es es'
phase-shares number n word.Weaken es es' a b = times-share number word.Weaken n es es' a b
phase-shares number n word.Mark es es' a b = mark-shares number es es' a b
phase-shares number n word.Restore es es' a b = restores-share number n es es' a b
phase-shares number n word.Cycle es es' a b = times-share number word.Cycle 1 es es' a b
phase-shares number n word.Snap es es' a b = times-share number word.Snap 1 es es' a b
phase-shares number n word.Contract es es' a b = times-share number word.Contract 1 es es' a b
phase-shares number n word.Mirror es es' a b = times-share number word.Mirror 1 es es' a b
phase-shares number n word.Sweep es es' a b = times-share number word.Sweep 1 es es' a b
phase-shares number n word.Resolve es es' a b = times-share number word.Resolve 1 es es' a b

phases-share : (number n : ℕ) (ws : List PhaseWord) (es es' : List Entry) → ArePhases n ws es → ArePhases n ws es' → Shares number C es es'
phases-share number n [] es es' a b = shares-by number C es es' [] [] a b (shares-none number C)
phases-share number n (w ∷ ws) es es' a b = shares-by number C es es' (a.0 ++ a.1) (b.0 ++ b.1) a.2 b.2
    (shares-then number C a.0 b.0 a.1 b.1 (phase-shares number n w a.0 b.0 a.3 b.3)
    (λ e. phases-share number (candidates_after n a.0) ws a.1 b.1 a.4 (subst (λ (l : List Entry). ArePhases (candidates_after n l) ws b.1) (sym e) b.4)))

-- a refusal
at-agree : (p : Phase) (r r' : Reply) → r ≡ says.At p → r' ≡ says.At p → (x y : Phase) → r ≡ says.At x → r' ≡ says.At y → x ≡ y
at-agree p r r' a b x y e f =
    let u : says.At p ≡ says.At x = sym a ∙ e in
    let v : says.At p ≡ says.At y = sym b ∙ f in
    let u' : p ≡ x = cc in
    let v' : p ≡ y = cc in
    sym u' ∙ v'

names-agree : (w : PhaseWord) (p : Phase) (r r' : Reply) → NamesPhase w p r → NamesPhase w p r' → Agree (op.Refused w) r r'
names-agree word.Cycle p r r' a b = tt
names-agree word.Snap p r r' a b = tt
names-agree word.Contract p r r' a b = at-agree p r r' a b
names-agree word.Mirror p r r' a b = at-agree p r r' a b
names-agree word.Weaken p r r' a b = at-agree p r r' a b
names-agree word.Mark p r r' a b = at-agree p r r' a b
names-agree word.Sweep p r r' a b = at-agree p r r' a b
names-agree word.Restore p r r' a b = at-agree p r r' a b
names-agree word.Resolve p r r' a b = at-agree p r r' a b

refusal-shares : (number : ℕ) (p : Phase) (w : PhaseWord) (es es' : List Entry) → AreRefusal p w es → AreRefusal p w es' → Shares number C es es'
refusal-shares number p w es es' a b = shares-by number C es es' (a.entry ∷ []) (b.entry ∷ []) a.all b.all
    (shares-cons number C a.entry b.entry [] [] (one-op number C a.entry b.entry (a.refuses ∙ sym b.refuses)
    (subst (λ (o : Op). Agree o a.entry.made.reply b.entry.made.reply) (sym a.refuses) (names-agree w p a.entry.made.reply b.entry.made.reply a.names b.names))) (λ e. shares-none number C))

word-shares : (number : ℕ) (s : Standing) (w : PhaseWord) (next : Option Phase) (es es' : List Entry) → AreWord s w next es → AreWord s w next es' → Shares number C es es'
word-shares number s w None es es' a b = refusal-shares number s.phase w es es' a b
word-shares number s w (Some p) es es' a b = phases-share number s.candidates (phases_of w) es es' a b

-- the events of another operation
after-shares : (number : ℕ) (t : Thread) (a : Act) (rs : List Reply) (es es' : List Entry) → AreEventsAfter a rs es → AreEventsAfter a rs es' → Shares number t es es'
after-shares number t a rs [] [] p q = shares-none number t
after-shares number t a rs [] (e' ∷ es') p q = absurd (let z : None ≡ Some e'.made.op = sym p ∙ q.0 in cc)
after-shares number t a rs (e ∷ es) [] p q = absurd (let z : None ≡ Some e.made.op = sym q ∙ p.0 in cc)
after-shares number t a rs (e ∷ es) (e' ∷ es') p q =
    let o : e.made.op ≡ e'.made.op = same_Some _ _ (sym p.0 ∙ q.0) in
    shares-cons number t e e' es es' (one-op number t e e' o (agree e.made.op e.made.reply e'.made.reply (next-no a rs e.made.op p.0)))
    (λ same. after-shares number t a (rs ++ e.made.reply ∷ []) es es' p.1 (subst (λ (x : Entry). AreEventsAfter a (rs ++ x.made.reply ∷ []) es') (sym same) q.1))

events-share : (number : ℕ) (t : Thread) (s : Standing) (a : Act) (es es' : List Entry) → IsLine t a → AreEvents s a es → AreEvents s a es' → Shares number t es es'
events-share number C s (act.PhaseLine w) es es' l p q = word-shares number s w (next_phase s.phase w) es es' p q
events-share number (M n) s (act.PhaseLine w) es es' l p q = absurd l.1
events-share number (P n) s (act.PhaseLine w) es es' l p q = absurd l.1
events-share number t s a es es' l p q = after-shares number t a [] es es' p q

none-left : (ns : List Noted) → entries ns ≡ [] → ns ≡ []
none-left [] e = refl
none-left (n ∷ ns) e = absurd (cc)

-- all lines, and what is left at the end
pub lines-one : (lines : List (ℕ × (Thread × Act))) (st : Standing) (es es' : List Entry) (k : ℕ) (s : Linkage) (ns ns' : List Noted)
    → HoldsLines st lines es → HoldsLines st lines es' → entries ns ≡ es → entries ns' ≡ es'
    → NumberedFrom k (entries ns) → NumberedFrom k (entries ns')
    → AllPlain s ns → AllPlain s ns' → ns ≡ ns'
lines-one [] st es es' k s ns ns' h h' e e' d d' c c' =
    let f = phases-share st.line st.candidates (phases_left st.phase) es es' h.events h'.events k s ns ns' [] [] d d' h.places h'.places (e ∙ sym (append-nil es)) (e' ∙ sym (append-nil es')) c c' in
    f.here ∙ (ap (λ (l : List Noted). f.front ++ l) (none-left f.back f.left ∙ sym (none-left f.back' f.left')) ∙ sym f.there)
lines-one (line ∷ lines) st es es' k s ns ns' h h' e e' d d' c c' =
    let f = events-share line.0 line.1.0 st line.1.1 h.0 h'.0 h.3.lawful h.3.events h'.3.events k s ns ns' h.1 h'.1 d d' h.3.places h'.3.places (e ∙ h.2) (e' ∙ h'.2) c c' in
    let held = subst (λ (l : List Entry). HoldsLines (standing_after st line.0 line.1.1 l) lines h'.1) (sym f.one) h'.4 in
    let rest = lines-one lines (standing_after st line.0 line.1.1 h.0) h.1 h'.1 f.next (replayed s f.front) f.back f.back' h.4 held f.left f.left' f.counts f.counts' f.come f.come' in
    f.here ∙ (ap (λ (l : List Noted). f.front ++ l) rest ∙ sym f.there)
