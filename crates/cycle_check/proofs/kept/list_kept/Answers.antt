use Rattle.std.proofs.Common.{◌≡◌, ℕ, ◌+◌, ◌<◌, ◌↔◌, List, [], ◌∷◌, ◌++◌, length, sym, ap, subst, ◌∙◌, arith}
use Rattle.std.specs.List.{Contains}
use Rattle.cycle_check.specs.Walking.{HasKept}
use Rattle.cycle_check.proofs.Lists.{listed-more, listed-same}
use Rattle.cycle_check.proofs.kept.list_kept.Goals as goal
use Rattle.cycle_check.proofs.kept.list_kept.Goals.{then-has_kept+in_ok-push, else-has_kept}

pub loop-c-preserved : goal.loop-c-preserved
loop-c-preserved c =
    let P : ℕ → Type 0 = λ d. HasKept c.args.starts.now c.args.members.now c.args.kept.now d in
    let n : ℕ = c.loop-c.c in
    let Listed : List ℕ → Type 0 = λ xs. (d : ℕ) → Contains xs d ↔ ((d < n + 1) × P d) in
    elim c.if-has_kept.branch [
      | then-has_kept+in_ok-push w ↦
          let items : c.if-has_kept.listed.items ≡ c.loop-c.listed.items ++ n ∷ [] = ap (λ v. v.items) w.listed-is ∙ w.in_ok-push.ensures.items in
          subst Listed (sym items) (listed-more P c.loop-c.listed.items n c.loop-c.invariant w.if-has_kept.ensures)
      | else-has_kept w ↦ subst Listed (sym (ap (λ v. v.items) w.listed-is)) (listed-same P c.loop-c.listed.items n c.loop-c.invariant w.if-has_kept.ensures)
    ]

pub returns : goal.returns
returns c =
    let P : ℕ → Type 0 = λ d. HasKept c.args.starts.now c.args.members.now c.args.kept.now d in
    let e : c.loop-c.c ≡ length c.args.starts.now = omega (arith, c.loop-c-test.false, c.loop-c.auto.c-end) in
    let Listed : ℕ → Type 0 = λ n. (d : ℕ) → Contains c.loop-c.listed.items d ↔ ((d < n) × P d) in
    subst Listed e c.loop-c.invariant
