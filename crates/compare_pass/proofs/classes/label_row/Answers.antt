-- A node of the row without a label gets it, and waits.
use Rattle.std.proofs.Common.{◌≡◌, ◌++◌, ◌∷◌, [], ℕ, get_or, ◌∙◌, ap, arith}
use Rattle.std.proofs.lemmas.List.{take_more, take_all}
use Rattle.compare_pass.proofs.Spreading.{labels-none, labels-old, labels-new}
use Rattle.compare_pass.proofs.classes.label_row.Goals as goal
use Rattle.compare_pass.proofs.classes.label_row.Goals.{then-label_of+in_ok-put_label+in_ok-push, else-label_of}

pub loop-y-init : goal.loop-y-init
loop-y-init c = record { numbers = c.requires.numbers; labels = labels-none c.args.label c.args.table.now.labels c.args.waiting.now.items }

pub label_of-requires-clause-node : goal.label_of-requires-clause-node
label_of-requires-clause-node c = c.requires.row c.loop-y.y-index 0 c.loop-y-test.true

pub label_of-requires-clause-numbers : goal.label_of-requires-clause-numbers
label_of-requires-clause-numbers c = c.loop-y.invariant.numbers

pub put_label-requires-clause-node : goal.put_label-requires-clause-node
put_label-requires-clause-node c = c.requires.row c.loop-y.y-index 0 c.loop-y-test.true

pub put_label-requires-clause-numbers : goal.put_label-requires-clause-numbers
put_label-requires-clause-numbers c = c.loop-y.invariant.numbers

pub loop-y-preserved : goal.loop-y-preserved
loop-y-preserved c =
    let i = c.loop-y.invariant in
    let y : ℕ = get_or c.args.row.now c.loop-y.y-index 0 in
    let e = c.label_of.ensures in
    rw (take_more c.args.row.now c.loop-y.y-index 0 c.loop-y-test.true) (elim c.if-label_of.branch [
      | then-label_of+in_ok-put_label+in_ok-push w ↦
          let items : c.if-label_of.waiting.items ≡ c.loop-y.waiting.items ++ y ∷ [] = ap (λ v. v.items) w.waiting-is ∙ w.in_ok-push.ensures.items in
          rw (w.table-is, items) record {
            numbers = w.in_ok-put_label.ensures.numbers;
            labels = rw w.in_ok-put_label.ensures.labels
                (labels-new _ c.args.label y _ _ c.loop-y.table.labels c.loop-y.waiting.items
                (omega (arith, e, w.if-label_of.true)) (λ m. omega (arith, m, c.requires.label, c.requires.few)) i.labels);
          }
      | else-label_of w ↦ rw (w.table-is, w.waiting-is) record {
        numbers = i.numbers;
        labels = labels-old _ c.args.label y _ _ c.loop-y.table.labels c.loop-y.waiting.items (λ m. w.if-label_of.false (omega (arith, e, m))) i.labels;
      }
    ])

pub returns-clause-labels : goal.returns-clause-labels
returns-clause-labels c = rw (take_all c.loop-y.y-index c.args.row.now (omega arith)) at c.loop-y.invariant.labels
