-- Which statics a run of a generated script fills: those of its lines.
use Rattle.std.proofs.Common.{◌≡◌, ℕ, ◌+◌, ◌<◌, inl, inr, Bool, true, false, List, [], ◌∷◌, Some, None, nat_eq, refl, sym, ap, subst, ◌∙◌, arith, eq-eqb}
use Rattle.std.proofs.lemmas.Bool.{cases_Bool, eqb-true}
use Rattle.joint_machine.specs.declared.names.Var.{Var}
use Rattle.joint_machine.specs.declared.names.StaticNo.{StaticNo}
use Rattle.joint_machine.specs.declared.names.Kind.{Kind}
use Rattle.joint_machine.specs.declared.names.Sort.{Sort}
use Rattle.joint_machine.specs.declared.names.HNum.{HNum}
use Rattle.joint_machine.specs.declared.names.Phase.TheVariants as at
use Rattle.joint_machine.specs.declared.names.PhaseWord.TheVariants as word
use Rattle.joint_machine.specs.declared.lines.Act.{Act}
use Rattle.joint_machine.specs.declared.lines.Act.TheVariants as act
use Rattle.joint_machine.specs.declared.events.Op.{Op}
use Rattle.joint_machine.specs.declared.events.Op.TheVariants as op
use Rattle.joint_machine.specs.declared.events.Reply.{Reply}
use Rattle.joint_machine.specs.declared.events.Reply.TheVariants as says
use Rattle.joint_machine.specs.declared.events.Entry.{Entry}
use Rattle.joint_machine.proofs.Deciding.{none_some, some-same}
use Rattle.run_summary.specs.Tallies.{is_h}
use Rattle.run_summary.specs.Lines.{one}
use Rattle.script_laws.specs.Holding.{Standing, AreEventsAfter, AreEvents}
use Rattle.generated_laws.proofs.Totals.{Each, total}
use Rattle.generated_laws.proofs.Own.{IsSimple, HasAnswer, IsLater, IsLaterEntry, IsOne, single, IsPair, pair, IsCycleOf, whole_cycle}
use Rattle.generated_laws.proofs.Moves.{Fills, SaysHandle}
use Rattle.generated_laws.proofs.Running.{FilledIn, SaysIt}

-- whether an event, or a line, fills the static of a place
abbrev pub fills : ℕ → Op → Bool
fills i (op.Line (act.Store x (Some v))) = nat_eq i x.0
fills i (op.Land h x) = nat_eq i (16 + x.0)
fills i o = false

abbrev pub line_fills : ℕ → Act → ℕ
line_fills i (act.Store x (Some v)) = one (nat_eq i x.0)
line_fills i (act.Pass v x) = one (nat_eq i (16 + x.0))
line_fills i a = 0

abbrev pub filling : ℕ → Entry → ℕ
filling i e = one (fills i e.made.op)

-- an entry that fills it counts
eq-from : (a b : ℕ) → nat_eq a b ≡ true → a ≡ b
eq-from a b e = eqb-true a b e

fills-from : (i : ℕ) (o : Op) → fills i o ≡ true → Fills i o
fills-from i (op.Line (act.Store x (Some v))) e = eq-from i x.0 e
fills-from i (op.Land h x) e = eq-from i (16 + x.0) e
fills-from i _ e = absurd (let f : ⊥ = cc in f)

fills-to : (i : ℕ) (o : Op) → Fills i o → fills i o ≡ true
fills-to i (op.Line (act.Store x (Some v))) e = eq-eqb i x.0 e
fills-to i (op.Land h x) e = eq-eqb i (16 + x.0) e
fills-to i _ e = absurd e

pub filled-counts : (i : ℕ) (es : List Entry) → FilledIn i es → 0 < total (filling i) es
filled-counts i [] f = absurd f
filled-counts i (e ∷ es) (inl a) = (let q = ap one (fills-to i e.made.op a) in omega (arith, q))
filled-counts i (e ∷ es) (inr a) = (let r = filled-counts i es a in omega (arith, r))

pub counts-filled : (i : ℕ) (es : List Entry) → 0 < total (filling i) es → FilledIn i es
counts-filled i [] l = absurd (omega (arith, l))
counts-filled i (e ∷ es) l = elim (cases_Bool (fills i e.made.op)) [
  | inl q ↦ inl (fills-from i e.made.op q)
  | inr q ↦ (let z = ap one q in inr (counts-filled i es (omega (arith, l, z))))
]

-- what the entries of a line fill is what the line fills, where each lend says its handle
abbrev pub HasBoth : Entry → Type 0
HasBoth e = HasAnswer e × SaysIt e

answers-of : (es : List Entry) → Each HasBoth es → Each HasAnswer es
answers-of [] w = tt
answers-of (e ∷ es) w = (w.0.0, answers-of es w.1)

module _ (i : ℕ) where
  abbrev count : Entry → ℕ
  count e = filling i e

  one-count : (o : Op) (own : List Entry) → IsOne o own → total count own ≡ one (fills i o)
  one-count o own s = (let c = ap (λ z. one (fills i z)) s.event in ap (total count) s.all ∙ omega (arith, c))

  later-none : (o : Op) → IsLater o → one (fills i o) ≡ 0
  later-none (op.Contract k) l = refl
  later-none (op.Mirror k) l = refl
  later-none (op.Weaken h) l = refl
  later-none op.Begin l = refl
  later-none op.Sweep l = refl
  later-none (op.Restore h) l = refl
  later-none (op.Clear k) l = refl
  later-none (op.Resolve k) l = refl
  later-none _ l = absurd l

  laters-none : (es : List Entry) → Each IsLaterEntry es → total count es ≡ 0
  laters-none [] l = refl
  laters-none (e ∷ es) l = (let a = later-none e.made.op l.0 in let r = laters-none es l.1 in omega (arith, a, r))

  pub cycle-none : (es : List Entry) → IsCycleOf es → total count es ≡ 0
  cycle-none es c = (let a = ap (λ z. one (fills i z)) c.snaps in let b = laters-none c.later c.are_later in ap (total count) c.all ∙ omega (arith, a, b))

  h-reply : (r : Reply) → is_h r ≡ true → (h : HNum) × (r ≡ says.H h)
  h-reply (says.H h) e = (h, refl)
  h-reply _ e = absurd (cc)

  land-count : (v : Var) (x : StaticNo) (h : HNum) (rest : List Entry) → AreEventsAfter (act.Pass v x) (says.H h ∷ []) rest → total count rest ≡ one (nat_eq i (16 + x.0))
  land-count v x h [] w = absurd (none_some (op.Land h x) (sym w))
  land-count v x h (e ∷ []) w = (let c = ap (λ z. one (fills i z)) (some-same e.made.op (op.Land h x) (sym w.0)) in omega (arith, c))
  land-count v x h (e ∷ f ∷ rest) w = absurd (none_some f.made.op w.1.0)

  pass-count : (v : Var) (x : StaticNo) (own : List Entry) → Each HasBoth own → AreEventsAfter (act.Pass v x) [] own → total count own ≡ one (nat_eq i (16 + x.0))
  pass-count v x [] g w = absurd (none_some (op.Lend v x) (sym w))
  pass-count v x (e ∷ rest) g w =
      let o : e.made.op ≡ op.Lend v x = some-same e.made.op (op.Lend v x) (sym w.0) in
      let h = h-reply e.made.reply (subst (λ z. SaysHandle z e.made.reply) o g.0.1) in
      let c = ap (λ z. one (fills i z)) o in
      let r = land-count v x h.0 rest (subst (λ z. AreEventsAfter (act.Pass v x) (z ∷ []) rest) h.1 w.1) in
      omega (arith, c, r)

  pair-count : (v : Var) (k : Kind) (n : ℕ) (sort : Sort) (f : ℕ) (own : List Entry) → IsPair v k n sort f own → total count own ≡ 0
  pair-count v k n sort f own s =
      let a = ap (λ z. one (fills i z)) s.makes in
      let b = ap (λ z. one (fills i z)) s.adopts in
      ap (total count) s.all ∙ omega (arith, a, b)

  pub own-count : (s : Standing) (a : Act) (own : List Entry) → s.phase ≡ at.Idle → IsSimple a → Each HasBoth own → AreEvents s a own → total count own ≡ line_fills i a
  own-count s (act.New v k n) own d w q e = one-count _ own (single (act.New v k n) _ own refl (λ r. refl) e)
  own-count s (act.NewPeer v n) own d w q e = one-count _ own (single (act.NewPeer v n) _ own refl (λ r. refl) e)
  own-count s (act.Set v j x) own d w q e = one-count _ own (single (act.Set v j x) _ own refl (λ r. refl) e)
  own-count s (act.Drop v) own d w q e = one-count _ own (single (act.Drop v) _ own refl (λ r. refl) e)
  own-count s (act.Store x None) own d w q e = one-count _ own (single (act.Store x None) _ own refl (λ r. refl) e)
  own-count s (act.Store x (Some v)) own d w q e = one-count _ own (single (act.Store x (Some v)) _ own refl (λ r. refl) e)
  own-count s (act.Bridge v k n sort l) own d w q e = pair-count v k n sort l own (pair v k n sort l own (answers-of own q) e)
  own-count s (act.Pass v x) own d w q e = pass-count v x own q e
  own-count s (act.PhaseLine word.Cycle) own d w q e = cycle-none own (whole_cycle s own d e)
  own-count s _ own d w q e = absurd w
