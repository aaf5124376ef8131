-- What the entries of one line of a generated script count, whatever came between them: each kind of line has its own
-- events, of which those that make something aren't refused for want of numbers.
use Rattle.std.proofs.Common.{◌≡◌, ℕ, ◌+◌, inl, inr, true, List, [], ◌∷◌, ◌++◌, Option, Some, None, refl, sym, ap, subst, ◌∙◌, arith}
use Rattle.joint_machine.specs.declared.names.Var.{Var}
use Rattle.joint_machine.specs.declared.names.StaticNo.{StaticNo}
use Rattle.joint_machine.specs.declared.names.Kind.{Kind}
use Rattle.joint_machine.specs.declared.names.Sort.{Sort}
use Rattle.joint_machine.specs.declared.names.Cycle.{Cycle}
use Rattle.joint_machine.specs.declared.names.PNum.{PNum}
use Rattle.joint_machine.specs.declared.names.HNum.{HNum}
use Rattle.joint_machine.specs.declared.names.Phase.{Phase}
use Rattle.joint_machine.specs.declared.names.Phase.TheVariants as at
use Rattle.joint_machine.specs.declared.names.PhaseWord.{PhaseWord}
use Rattle.joint_machine.specs.declared.names.PhaseWord.TheVariants as word
use Rattle.joint_machine.specs.declared.lines.Act.{Act}
use Rattle.joint_machine.specs.declared.lines.Act.TheVariants as act
use Rattle.joint_machine.specs.declared.events.Op.{Op}
use Rattle.joint_machine.specs.declared.events.Op.TheVariants as op
use Rattle.joint_machine.specs.declared.events.Reply.{Reply}
use Rattle.joint_machine.specs.declared.events.Reply.TheVariants as says
use Rattle.joint_machine.specs.declared.events.Entry.{Entry}
use Rattle.joint_machine.specs.Phases.{IsEventOf, IsClear, AreEach, ArePhase, ArePhases, AreTimes, next_phase, phases_left, phases_of, candidates_after}
use Rattle.joint_machine.proofs.Deciding.{none_some, some-same}
use Rattle.run_summary.specs.Tallies.{is_m, is_p, is_made}
use Rattle.script_laws.specs.Holding.{Standing, next_event, AreEventsAfter, AreEvents, AreWord}
use Rattle.generated_laws.proofs.Totals.{Each, each-join, total}

-- the operations of generated scripts
abbrev pub IsSimple : Act → Type 0
IsSimple (act.New v k n) = Unit {0}
IsSimple (act.Bridge v k n sort f) = Unit {0}
IsSimple (act.Set v i w) = Unit {0}
IsSimple (act.Drop v) = Unit {0}
IsSimple (act.Store x v) = Unit {0}
IsSimple (act.Pass v x) = Unit {0}
IsSimple (act.NewPeer v n) = Unit {0}
IsSimple (act.PhaseLine word.Cycle) = Unit {0}
IsSimple _ = ⊥

-- what makes something isn't refused
abbrev pub Answers : Op → Reply → Type 0
Answers (op.Line (act.New v k n)) r = is_m r ≡ true
Answers (op.Line (act.NewPeer v n)) r = is_p r ≡ true
Answers (op.Make sort n) r = is_made r ≡ true
Answers (op.Adopt v k n p h) r = is_m r ≡ true
Answers _ r = Unit {0}

abbrev pub HasAnswer : Entry → Type 0
HasAnswer e = Answers e.made.op e.made.reply

-- the events of a cycle behind its snapshot
abbrev pub IsLater : Op → Type 0
IsLater (op.Contract k) = Unit {0}
IsLater (op.Mirror k) = Unit {0}
IsLater (op.Weaken h) = Unit {0}
IsLater op.Begin = Unit {0}
IsLater op.Sweep = Unit {0}
IsLater (op.Restore h) = Unit {0}
IsLater (op.Clear k) = Unit {0}
IsLater (op.Resolve k) = Unit {0}
IsLater _ = ⊥

abbrev pub IsLaterEntry : Entry → Type 0
IsLaterEntry e = IsLater e.made.op

-- the words of those phases
abbrev IsLaterWord : PhaseWord → Type 0
IsLaterWord word.Cycle = ⊥
IsLaterWord word.Snap = ⊥
IsLaterWord _ = Unit {0}

abbrev AreLaterWords : List PhaseWord → Type 0
AreLaterWords [] = Unit {0}
AreLaterWords (w ∷ ws) = IsLaterWord w × AreLaterWords ws

event-later : (w : PhaseWord) (o : Op) → IsLaterWord w → IsEventOf w o → IsLater o
event-later word.Contract (op.Contract k) l e = tt
event-later word.Mirror (op.Mirror k) l e = tt
event-later word.Weaken (op.Weaken h) l e = tt
event-later word.Mark op.Begin l e = tt
event-later word.Sweep op.Sweep l e = tt
event-later word.Restore (op.Restore h) l e = tt
event-later word.Resolve (op.Resolve k) l e = tt
event-later word.Cycle o l e = absurd l
event-later word.Snap o l e = absurd l
event-later _ _ l e = absurd e

each-later : (w : PhaseWord) (es : List Entry) → IsLaterWord w → AreEach w es → Each IsLaterEntry es
each-later w [] l a = tt
each-later w (e ∷ es) l a = (event-later w e.made.op l a.0, each-later w es l a.1)

clear-later : (o : Op) → IsClear o → IsLater o
clear-later (op.Clear k) c = tt
clear-later _ c = absurd c

phase-later : (w : PhaseWord) (n : ℕ) (es : List Entry) → IsLaterWord w → ArePhase n w es → Each IsLaterEntry es
phase-later word.Cycle n es l a = absurd l
phase-later word.Snap n es l a = absurd l
phase-later word.Contract n es l a = each-later word.Contract es tt a.each
phase-later word.Mirror n es l a = each-later word.Mirror es tt a.each
phase-later word.Weaken n es l a = each-later word.Weaken es tt a.each
phase-later word.Mark n es l a = elim a [
  | inl b ↦ each-later word.Mark es tt b.each
  | inr b ↦ subst (Each IsLaterEntry) (sym b.4) (subst IsLater (sym b.5) tt, (event-later word.Mark b.1.made.op tt b.7, tt))
]
phase-later word.Sweep n es l a = each-later word.Sweep es tt a.each
phase-later word.Restore n es l a = subst (Each IsLaterEntry) (sym a.2)
    (each-join IsLaterEntry a.0 (a.1 ∷ []) (each-later word.Restore a.0 tt a.3.each) (clear-later a.1.made.op a.4, tt))
phase-later word.Resolve n es l a = each-later word.Resolve es tt a.each

phases-later : (ws : List PhaseWord) (n : ℕ) (es : List Entry) → AreLaterWords ws → ArePhases n ws es → Each IsLaterEntry es
phases-later [] n es l a = subst (Each IsLaterEntry) (sym a) tt
phases-later (w ∷ ws) n es l a = subst (Each IsLaterEntry) (sym a.2) (each-join IsLaterEntry a.0 a.1 (phase-later w n a.0 l.0 a.3) (phases-later ws (candidates_after n a.0) a.1 l.1 a.4))

-- the entries of a whole cycle: its snapshot, and later ones
pub record IsCycleOf (es : List Entry) : Type 0 where
  pub snap : Entry
  pub cycle : Cycle
  pub later : List Entry
  pub all : es ≡ snap ∷ later
  pub snaps : snap.made.op ≡ op.Snap cycle
  pub are_later : Each IsLaterEntry later

snap-of : (o : Op) → IsEventOf word.Snap o → (k : Cycle) × (o ≡ op.Snap k)
snap-of (op.Snap k) e = (k, refl)
snap-of _ e = absurd e

cycle-from : (n : ℕ) (own rest es : List Entry) → es ≡ own ++ rest → AreTimes word.Snap 1 own → ((m : ℕ) → Each IsLaterEntry rest) → IsCycleOf es
cycle-from n [] rest es e a l = absurd (let z = a.count in cc)
cycle-from n (x ∷ []) rest es e a l = (let s = snap-of x.made.op a.each.0 in record { snap = x; cycle = s.0; later = rest; all = e; snaps = s.1; are_later = l 0 })
cycle-from n (x ∷ y ∷ own) rest es e a l = absurd (let z = a.count in omega (arith, z))

pub whole_cycle : (s : Standing) (es : List Entry) → s.phase ≡ at.Idle → AreEvents s (act.PhaseLine word.Cycle) es → IsCycleOf es
whole_cycle s es i a =
    let p : ArePhases s.candidates (phases_of word.Cycle) es = subst (λ (z : Phase). AreWord s word.Cycle (next_phase z word.Cycle) es) i a in
    cycle-from s.candidates p.0 p.1 es p.2 p.3 (λ m. phases-later (phases_left at.Snapped) (candidates_after s.candidates p.0) p.1 (tt, (tt, (tt, (tt, (tt, (tt, (tt, tt))))))) p.4)

-- one event alone
pub record IsOne (o : Op) (own : List Entry) : Type 0 where
  pub entry : Entry
  pub all : own ≡ entry ∷ []
  pub event : entry.made.op ≡ o

pub single : (a : Act) (o : Op) (own : List Entry) → next_event a [] ≡ Some o → ((r : Reply) → next_event a (r ∷ []) ≡ None) → AreEventsAfter a [] own → IsOne o own
single a o [] e n w = absurd (none_some o (sym w ∙ e))
single a o (x ∷ []) e n w = record { entry = x; all = refl; event = some-same x.made.op o (sym w.0 ∙ e) }
single a o (x ∷ y ∷ own) e n w = absurd (none_some y.made.op (sym (n x.made.reply) ∙ w.1.0))

-- a pair, and its adopt
made-reply : (r : Reply) → is_made r ≡ true → (p : PNum) × (h : HNum) × (r ≡ says.Made p h)
made-reply (says.Made p h) e = (p, h, refl)
made-reply _ e = absurd (cc)

pub record IsPair (v : Var) (k : Kind) (n : ℕ) (sort : Sort) (f : ℕ) (own : List Entry) : Type 0 where
  pub first : Entry
  pub second : Entry
  pub all : own ≡ first ∷ second ∷ []
  pub makes : first.made.op ≡ op.Make sort f
  pub peer : PNum
  pub handle : HNum
  pub made : first.made.reply ≡ says.Made peer handle
  pub adopts : second.made.op ≡ op.Adopt v k n peer handle

pair-rest : (v : Var) (k : Kind) (n : ℕ) (sort : Sort) (f : ℕ) (x : Entry) (rest : List Entry) (p : PNum) (h : HNum) → x.made.op ≡ op.Make sort f → x.made.reply ≡ says.Made p h
    → AreEventsAfter (act.Bridge v k n sort f) (says.Made p h ∷ []) rest → IsPair v k n sort f (x ∷ rest)
pair-rest v k n sort f x [] p h o r w = absurd (none_some (op.Adopt v k n p h) (sym w))
pair-rest v k n sort f x (y ∷ []) p h o r w = record { first = x; second = y; all = refl; makes = o; peer = p; handle = h; made = r; adopts = some-same y.made.op (op.Adopt v k n p h) (sym w.0) }
pair-rest v k n sort f x (y ∷ z ∷ rest) p h o r w = absurd (none_some z.made.op w.1.0)

pub pair : (v : Var) (k : Kind) (n : ℕ) (sort : Sort) (f : ℕ) (own : List Entry) → Each HasAnswer own → AreEventsAfter (act.Bridge v k n sort f) [] own → IsPair v k n sort f own
pair v k n sort f [] g w = absurd (none_some (op.Make sort f) (sym w))
pair v k n sort f (x ∷ rest) g w =
    let o : x.made.op ≡ op.Make sort f = some-same x.made.op (op.Make sort f) (sym w.0) in
    let m = made-reply x.made.reply (subst (λ z. Answers z x.made.reply) o g.0) in
    pair-rest v k n sort f x rest m.0 m.1 o m.2 (subst (λ z. AreEventsAfter (act.Bridge v k n sort f) (z ∷ []) rest) m.2 w.1)

-- a measure that lines have
pub record Measures (f : Op → Reply → ℕ) (g : Act → ℕ) : Type 0 where
  pub new : (v : Var) (k : Kind) (n : ℕ) (r : Reply) → is_m r ≡ true → f (op.Line (act.New v k n)) r ≡ g (act.New v k n)
  pub peer : (v : Var) (n : ℕ) (r : Reply) → is_p r ≡ true → f (op.Line (act.NewPeer v n)) r ≡ g (act.NewPeer v n)
  pub pair : (v : Var) (k : Kind) (n : ℕ) (sort : Sort) (m : ℕ) (p : PNum) (h : HNum) (r q : Reply)
      → is_made r ≡ true → is_m q ≡ true → f (op.Make sort m) r + f (op.Adopt v k n p h) q ≡ g (act.Bridge v k n sort m)
  pub set : (v : Var) (i : ℕ) (w : Option Var) (r : Reply) → f (op.Line (act.Set v i w)) r ≡ g (act.Set v i w)
  pub drop : (v : Var) (r : Reply) → f (op.Line (act.Drop v)) r ≡ g (act.Drop v)
  pub store : (x : StaticNo) (v : Option Var) (r : Reply) → f (op.Line (act.Store x v)) r ≡ g (act.Store x v)
  pub lend : (v : Var) (x : StaticNo) (r : Reply) → f (op.Lend v x) r ≡ 0
  pub land : (h : HNum) (x : StaticNo) (r : Reply) → f (op.Land h x) r ≡ 0
  pub pass : (v : Var) (x : StaticNo) → g (act.Pass v x) ≡ 0
  pub cycle : (k : Cycle) (r : Reply) → f (op.Snap k) r ≡ g (act.PhaseLine word.Cycle)
  pub later : (o : Op) (r : Reply) → IsLater o → f o r ≡ 0

module _ (f : Op → Reply → ℕ) (g : Act → ℕ) (m : Measures f g) where
  abbrev pub of_entry : Entry → ℕ
  of_entry e = f e.made.op e.made.reply

  later-total : (es : List Entry) → Each IsLaterEntry es → total of_entry es ≡ 0
  later-total [] l = refl
  later-total (e ∷ es) l = (let a = m.later e.made.op e.made.reply l.0 in let b = later-total es l.1 in omega (arith, a, b))

  one-total : (a : Act) (o : Op) (own : List Entry) → IsOne o own → Each HasAnswer own → ((r : Reply) → Answers o r → f o r ≡ g a) → total of_entry own ≡ g a
  one-total a o own s w is =
      let e = s.entry in
      let good : Each HasAnswer (e ∷ []) = subst (Each HasAnswer) s.all w in
      let counts : f e.made.op e.made.reply ≡ g a = ap (λ z. f z e.made.reply) s.event ∙ is e.made.reply (subst (λ z. Answers z e.made.reply) s.event good.0) in
      ap (total of_entry) s.all ∙ omega (arith, counts)

  pair-total : (v : Var) (k : Kind) (n : ℕ) (sort : Sort) (l : ℕ) (own : List Entry) → Each HasAnswer own → IsPair v k n sort l own → total of_entry own ≡ g (act.Bridge v k n sort l)
  pair-total v k n sort l own w s =
      let x = s.first in
      let y = s.second in
      let good : Each HasAnswer (x ∷ y ∷ []) = subst (Each HasAnswer) s.all w in
      let a : f x.made.op x.made.reply ≡ f (op.Make sort l) x.made.reply = ap (λ z. f z x.made.reply) s.makes in
      let b : f y.made.op y.made.reply ≡ f (op.Adopt v k n s.peer s.handle) y.made.reply = ap (λ z. f z y.made.reply) s.adopts in
      let both = m.pair v k n sort l s.peer s.handle x.made.reply y.made.reply (subst (λ z. Answers z x.made.reply) s.makes good.0) (subst (λ z. Answers z y.made.reply) s.adopts good.1.0) in
      ap (total of_entry) s.all ∙ omega (arith, a, b, both)

  pass-rest : (v : Var) (x : StaticNo) (r : Reply) (rest : List Entry) → AreEventsAfter (act.Pass v x) (r ∷ []) rest → total of_entry rest ≡ 0
  pass-rest v x (says.H h) [] w = refl
  pass-rest v x (says.H h) (e ∷ []) w = (let o : e.made.op ≡ op.Land h x = some-same e.made.op (op.Land h x) (sym w.0) in
      let c = ap (λ z. f z e.made.reply) o in let d = m.land h x e.made.reply in omega (arith, c, d))
  pass-rest v x (says.H h) (e ∷ e' ∷ es) w = absurd (none_some e'.made.op w.1.0)
  pass-rest v x _ [] w = refl
  pass-rest v x _ (e ∷ es) w = absurd (none_some e.made.op w.0)

  pass-total : (v : Var) (x : StaticNo) (own : List Entry) → AreEventsAfter (act.Pass v x) [] own → total of_entry own ≡ g (act.Pass v x)
  pass-total v x [] w = sym (m.pass v x)
  pass-total v x (e ∷ es) w =
      let o : e.made.op ≡ op.Lend v x = some-same e.made.op (op.Lend v x) (sym w.0) in
      let c = ap (λ z. f z e.made.reply) o in
      let d = m.lend v x e.made.reply in
      let r = pass-rest v x e.made.reply es w.1 in
      let p = m.pass v x in
      omega (arith, c, d, r, p)

  cycle-total : (es : List Entry) → IsCycleOf es → total of_entry es ≡ g (act.PhaseLine word.Cycle)
  cycle-total es c =
      let a = ap (λ z. f z c.snap.made.reply) c.snaps in
      let b = m.cycle c.cycle c.snap.made.reply in
      let l = later-total c.later c.are_later in
      ap (total of_entry) c.all ∙ omega (arith, a, b, l)

  -- what the entries of a line count is what the line counts
  pub own-total : (s : Standing) (a : Act) (own : List Entry) → s.phase ≡ at.Idle → IsSimple a → Each HasAnswer own → AreEvents s a own → total of_entry own ≡ g a
  own-total s (act.New v k n) own i w q e = one-total (act.New v k n) _ own (single (act.New v k n) _ own refl (λ r. refl) e) q (λ r y. m.new v k n r y)
  own-total s (act.NewPeer v n) own i w q e = one-total (act.NewPeer v n) _ own (single (act.NewPeer v n) _ own refl (λ r. refl) e) q (λ r y. m.peer v n r y)
  own-total s (act.Set v j x) own i w q e = one-total (act.Set v j x) _ own (single (act.Set v j x) _ own refl (λ r. refl) e) q (λ r y. m.set v j x r)
  own-total s (act.Drop v) own i w q e = one-total (act.Drop v) _ own (single (act.Drop v) _ own refl (λ r. refl) e) q (λ r y. m.drop v r)
  own-total s (act.Store x v) own i w q e = one-total (act.Store x v) _ own (single (act.Store x v) _ own refl (λ r. refl) e) q (λ r y. m.store x v r)
  own-total s (act.Bridge v k n sort l) own i w q e = pair-total v k n sort l own q (pair v k n sort l own q e)
  own-total s (act.Pass v x) own i w q e = pass-total v x own e
  own-total s (act.PhaseLine word.Cycle) own i w q e = cycle-total own (whole_cycle s own i e)
  own-total s _ own i w q e = absurd w
