-- Each of these lists has entries at the places of which the clause says that they can't stand so.
use Rattle.std.proofs.Common.{◌≡◌, ◌⊎◌, inl, inr, ℕ, zero, suc, ◌<◌, Bool, true, false, List, [], ◌∷◌, Some, nat_eq, refl, sym, ap, subst, ◌∙◌, arith, slice_get}
use Rattle.std.specs.Prelude.{Contains}
use Rattle.std.proofs.lemmas.Option.{same_Some}
use Rattle.joint_machine.specs.declared.names.Thread.TheVariants.{M}
use Rattle.joint_machine.specs.declared.names.Var.{Var}
use Rattle.joint_machine.specs.declared.lines.Act.TheVariants as act
use Rattle.joint_machine.specs.declared.events.Op.{Op}
use Rattle.joint_machine.specs.declared.events.Op.TheVariants as op
use Rattle.joint_machine.specs.Places.{At}
use Rattle.joint_machine.specs.Readers.{EndsCycleAt}
use Rattle.joint_machine.specs.Told.{Noted}
use Rattle.computed_histories.proofs.Reaching.{member}
use Rattle.computed_histories.proofs.Telling.{same}
use Rattle.worked_endings.specs.Gates.{AreLetInReadsRefused, IsFreedPinRefused, unset_while_open, given_before_a_snap, pending_once_let_in, pending_behind_a_later_one, unset_behind_a_cycle, freed_in_its_pin}

abbrev ends_one : Op → Bool
ends_one (op.Resolve k) = true
ends_one (op.Abandon k) = true
ends_one _ = false

-- the entry at a place ends a cycle
no_end : (ns : List Noted) (i k : ℕ) (n : Noted) → slice_get ns i ≡ Some n → ends_one n.entry.made.op ≡ false → EndsCycleAt ns i k → ⊥
no_end ns i k n there other e =
    let one = same_Some e.element n (sym e.there ∙ there) in
    let f : ends_one e.element.entry.made.op ≡ true = by e.is in
    let g : ends_one n.entry.made.op ≡ true = subst (λ (z : Noted). ends_one z.entry.made.op ≡ true) one f in
    let h : false ≡ true = sym other ∙ g in cc
  where
    by : (e.element.entry.made.op ≡ op.Resolve record { 0 = k }) ⊎ (e.element.entry.made.op ≡ op.Abandon record { 0 = k }) → ends_one e.element.entry.made.op ≡ true
    by (inl q) = ap ends_one q
    by (inr q) = ap ends_one q

-- no end stands before place 1
no_first_end : (ns : List Noted) (k : ℕ) (n : Noted) → slice_get ns 0 ≡ Some n → ends_one n.entry.made.op ≡ false → (end : ℕ) × (end < 1) × EndsCycleAt ns end k → ⊥
no_first_end ns k n there other t = by t.0 t.1 t.2
  where
    by : (end : ℕ) → end < 1 → EndsCycleAt ns end k → ⊥
    by zero l e = no_end ns 0 k n there other e
    by (suc end) l e = omega (arith, l)

pub let_in_reads_refused : AreLetInReadsRefused
let_in_reads_refused = record {
  unset_open = λ g. no_first_end unset_while_open 1 _ refl refl
      (g.closed 1 0 1 (record { element = _; there = refl; is = refl }) (inl (record { element = _; there = refl; is = refl })) (omega arith));
  given_early = λ g. no_first_end given_before_a_snap 1 _ refl refl
      (g.closed 1 0 1 (record { element = _; there = refl; is = refl }) (inr (record { element = _; there = refl; is = (refl, refl) })) (omega arith));
  let_in = λ g. g.held 3 2 1 1 (M 1) (record { element = _; there = refl; is = (refl, refl) }) (record { element = _; there = refl; is = refl })
      (record { element = _; there = refl; is = inl refl }) (omega arith) (inl (record { element = _; there = refl; is = refl }))
      (2, omega arith, omega arith, record { element = _; there = refl; is = refl });
  later = λ g. g.held 3 2 1 1 (M 1) (record { element = _; there = refl; is = (refl, refl) }) (record { element = _; there = refl; is = refl })
      (record { element = _; there = refl; is = inl refl }) (omega arith) (inr (2, omega arith, record { element = _; there = refl; is = (refl, refl) }))
      (2, omega arith, omega arith, record { element = _; there = refl; is = refl });
  unset_behind = λ g. g.set 3 1 0 1 0 (record { element = _; there = refl; is = (refl, refl) }) (record { element = _; there = refl; is = (refl, refl) })
      (record { element = _; there = refl; is = refl }) (omega arith) (omega arith);
}

-- the resolution is no `take`
no_take : (x : ℕ) (v : Var) → 2 < x → x < 4 → At freed_in_its_pin x (λ n. (n.entry.made.caller ≡ M 1) × (n.entry.made.op ≡ op.Line (act.Take v))) → ⊥
no_take zero v l m a = omega (arith, l)
no_take (suc zero) v l m a = omega (arith, l)
no_take (suc (suc zero)) v l m a = omega (arith, l)
no_take (suc (suc (suc zero))) v l m a =
    let one = same_Some a.element _ (sym a.there) in
    let f : true ≡ false = ap (λ (n : Noted). ends_one n.entry.made.op) (sym one) ∙ ap ends_one a.is.1 in cc
no_take (suc (suc (suc (suc x)))) v l m a = omega (arith, m)

pub freed_pin_refused : IsFreedPinRefused
freed_pin_refused p =
    let t = p 2 4 1 1 (record { element = _; there = refl; is = (refl, (0, refl), refl) }) (omega arith) no_take in
    t.1.kept ((member nat_eq same (1 ∷ []) 1).holds refl)
