-- What is marked stands in the list, and what stands there is unmarked.
use Rattle.std.proofs.Common.{◌≡◌, ◌<◌, ℕ, true, false, length, get_or, set, sym, ◌∙◌, ap, arith, inl, inr}
use Rattle.std.proofs.lemmas.Bool.{cases_eq, cases_Bool, true≢false}
use Rattle.std.proofs.lemmas.List.{get_or-set_same, get_or-set_other, get_or_default}
use Rattle.component_pass.proofs.Keeping.{set-taken}
use Rattle.component_pass.proofs.sharing.unmark.Goals as goal

pub loop-x-preserved : goal.loop-x-preserved
loop-x-preserved c =
    let i = c.loop-x.invariant in
    let near = c.args.near.now in
    let at = c.loop-x.x-index in
    let x : ℕ = get_or near at 0 in
    let lt : x < length c.loop-x.marks = omega (arith, c.requires.below at 0 c.loop-x-test.true) in
    record {
      taken = λ k l. set-taken false near c.loop-x.marks at false k lt l (λ before. i.taken k before);
      before = λ z e. elim (cases_eq z x) [
        | inl is ↦ absurd (true≢false (sym e ∙ ap (λ (y : ℕ). get_or (set c.loop-x.marks x false) y false) is ∙ get_or-set_same c.loop-x.marks x false false lt))
        | inr ne ↦ i.before z (sym (get_or-set_other c.loop-x.marks x z false false ne) ∙ e)
      ];
    }

pub returns : goal.returns
returns c = λ k d lt. elim (cases_Bool (get_or c.loop-x.marks k d)) [
  | inr f ↦ f
  | inl t ↦
      let u : get_or c.loop-x.marks k false ≡ true = sym (get_or_default c.loop-x.marks k d false lt) ∙ t in
      let m = c.requires.listed k (c.loop-x.invariant.before k u) in
      let v = c.loop-x.invariant.taken m.0 (omega (arith, m.1)) in
      let at : get_or c.args.near.now m.0 0 ≡ k = sym (get_or_default c.args.near.now m.0 k 0 m.1) ∙ m.2 in
      absurd (true≢false (sym u ∙ ap (λ (y : ℕ). get_or c.loop-x.marks y false) (sym at) ∙ v))
]
