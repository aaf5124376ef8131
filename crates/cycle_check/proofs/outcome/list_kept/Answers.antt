use Rattle.std.proofs.Common.{◌≡◌, ℕ, ◌+◌, ◌<◌, ◌↔◌, List, [], ◌∷◌, ◌++◌, length, sym, ap, subst, ◌∙◌, arith}
use Rattle.std.specs.List.{Contains}
use Rattle.cycle_check.specs.Judging.{IsKept}
use Rattle.cycle_check.proofs.Lists.{listed-more, listed-same}
use Rattle.cycle_check.proofs.outcome.list_kept.Goals as goal
use Rattle.cycle_check.proofs.outcome.list_kept.Goals.{then-is_kept+in_ok-push, else-is_kept}

pub loop-x-preserved : goal.loop-x-preserved
loop-x-preserved c =
    let P : ℕ → Type 0 = λ d. IsKept c.args.kinds.now c.args.kept.now d in
    let n : ℕ = c.loop-x.x in
    let Listed : List ℕ → Type 0 = λ xs. (d : ℕ) → Contains xs d ↔ ((d < n + 1) × P d) in
    elim c.if-is_kept.branch [
      | then-is_kept+in_ok-push w ↦
          let items : c.if-is_kept.listed.items ≡ c.loop-x.listed.items ++ n ∷ [] = ap (λ v. v.items) w.listed-is ∙ w.in_ok-push.ensures.items in
          subst Listed (sym items) (listed-more P c.loop-x.listed.items n c.loop-x.invariant w.if-is_kept.ensures)
      | else-is_kept w ↦ subst Listed (sym (ap (λ v. v.items) w.listed-is)) (listed-same P c.loop-x.listed.items n c.loop-x.invariant w.if-is_kept.ensures)
    ]

pub returns : goal.returns
returns c =
    let P : ℕ → Type 0 = λ d. IsKept c.args.kinds.now c.args.kept.now d in
    let e : c.loop-x.x ≡ length c.args.kinds.now = omega (arith, c.loop-x-test.false, c.loop-x.auto.x-end) in
    let Listed : ℕ → Type 0 = λ n. (d : ℕ) → Contains c.loop-x.listed.items d ↔ ((d < n) × P d) in
    subst Listed e c.loop-x.invariant
