use Rattle.std.proofs.Common.{◌≡◌, ◌++◌, ◌∷◌, [], ℕ, get_or, refl, ◌∙◌, ap, subst, arith, inl, inr}
use Rattle.std.specs.List.{Contains}
use Rattle.std.proofs.lemmas.Bool.{cases_lt}
use Rattle.std.proofs.lemmas.List.{get_or_default}
use Rattle.std.proofs.lemmas.List.Elements.{All-push, Contains-get_or, Contains-append_left, Contains-push}
use Rattle.compare_pass.specs.Searching.{Opens}
use Rattle.compare_pass.proofs.references.collect.Goals as goal
use Rattle.compare_pass.proofs.references.collect.Goals.{then-not-opens+in_ok-push, else-not-opens}

pub loop-y-preserved : goal.loop-y-preserved
loop-y-preserved c =
    let i = c.loop-y.invariant in
    let found = c.args.found.now in
    let at = c.loop-y.y-index in
    let y : ℕ = get_or found at 0 in
    let outs = c.loop-y.outs.items in
    let j : ℕ = get_or c.args.indexes.now (get_or c.args.labels.now y 0) 0 in
    elim c.if-not-opens.branch [
      | then-not-opens+in_ok-push w ↦
          let items : c.if-not-opens.outs.items ≡ outs ++ j ∷ [] = ap (λ v. v.items) w.outs-is ∙ w.in_ok-push.ensures.items in
          rw items record {
            from = All-push (λ k. (z : ℕ) × Contains found z × (Opens c.args.labels.now c.args.indexes.now c.args.own z → ⊥) × (get_or c.args.indexes.now (get_or c.args.labels.now z 0) 0 ≡ k))
                outs j i.from
                (y, Contains-get_or found at 0 c.loop-y-test.true, w.if-not-opens.ensures, refl);
            has = λ k lt o. elim (cases_lt k at) [
              | inl kl ↦ Contains-append_left outs (j ∷ []) _ (i.has k kl o)
              | inr ge ↦ let e : k ≡ at = omega (arith, lt) in rw e (Contains-push outs j)
            ];
          }
      | else-not-opens w ↦ rw w.outs-is record {
        from = i.from;
        has = λ k lt o. elim (cases_lt k at) [
          | inl kl ↦ i.has k kl o
          | inr ge ↦ let e : k ≡ at = omega (arith, lt) in absurd (subst (λ (z : ℕ). Opens c.args.labels.now c.args.indexes.now c.args.own (get_or found z 0) → ⊥) e o w.if-not-opens.ensures)
        ];
      }
    ]

pub returns-clause-has : goal.returns-clause-has
returns-clause-has c = λ k d lt. rw (get_or_default c.args.found.now k d 0 lt) (c.loop-y.invariant.has k (omega arith))

pub opens-requires-clause-labels : goal.opens-requires-clause-labels
opens-requires-clause-labels c = c.requires.labels c.loop-y.y-index 0 c.loop-y-test.true

pub opens-requires-clause-indexes : goal.opens-requires-clause-indexes
opens-requires-clause-indexes c = c.requires.small (get_or c.args.found.now c.loop-y.y-index 0) 0 (c.requires.labels c.loop-y.y-index 0 c.loop-y-test.true)
