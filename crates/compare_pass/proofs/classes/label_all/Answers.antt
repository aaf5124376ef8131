-- From the node that was finished last on, each class is labelled at the first of its nodes that is come by.
use Rattle.std.proofs.Common.{◌≡◌, ◌-◌, ◌+◌, length, refl, sym, subst, arith}
use Rattle.compare_pass.specs.Labelling.{AreLabelled}
use Rattle.compare_pass.proofs.Spreading.{none-labelled, labelled-on}
use Rattle.compare_pass.proofs.classes.label_all.Goals as goal
use Rattle.compare_pass.proofs.classes.label_all.Goals.{then-label_of+in_ok-label_class, else-label_of}

pub loop-left-init : goal.loop-left-init
loop-left-init c = record {
  within = omega arith;
  numbers = c.requires.numbers;
  labels = none-labelled c.args.graph.now.edges (length c.args.graph.now.nodes) c.args.order.now
      (length c.args.order.now) c.args.table.now.labels c.requires.part.rows c.requires.size c.requires.bare (omega arith);
  waiting = c.requires.waiting;
}

pub loop-left-preserved : goal.loop-left-preserved
loop-left-preserved c =
    let i = c.loop-left.invariant in
    let n = length c.args.graph.now.nodes in
    let at : c.loop-left.left - 1 + 1 ≡ c.loop-left.left = omega arith in
    let e = c.label_of.ensures in
    elim c.if-label_of.branch [
      | then-label_of+in_ok-label_class w ↦
          let d = w.in_ok-label_class.ensures in
          rw (w.table-is, w.waiting-is) record { within = omega (arith, i.within); numbers = d.numbers; labels = d.labels; waiting = d.waiting }
      | else-label_of w ↦ rw (w.table-is, w.waiting-is) record {
        within = omega (arith, i.within);
        numbers = i.numbers;
        labels = labelled-on c.args.graph.now.edges n c.args.order.now (c.loop-left.left - 1) _ c.loop-left.table.labels refl (λ m. w.if-label_of.false (omega (arith, e, m)))
            (subst (λ k. AreLabelled c.args.graph.now.edges n c.args.order.now k c.loop-left.table.labels) (sym at) i.labels);
        waiting = i.waiting;
      }
    ]

pub label_of-requires-clause-node : goal.label_of-requires-clause-node
label_of-requires-clause-node c = c.requires.order.within (c.loop-left.left - 1) 0 (omega (arith, c.loop-left.invariant.within))

pub label_of-requires-clause-numbers : goal.label_of-requires-clause-numbers
label_of-requires-clause-numbers c = c.loop-left.invariant.numbers

pub label_class-requires-clause-labels : goal.label_class-requires-clause-labels
label_class-requires-clause-labels c =
    let at : c.loop-left.left - 1 + 1 ≡ c.loop-left.left = omega arith in
    subst (λ k. AreLabelled c.args.graph.now.edges (length c.args.graph.now.nodes) c.args.order.now k c.loop-left.table.labels) (sym at) c.loop-left.invariant.labels

pub label_class-requires-clause-bare : goal.label_class-requires-clause-bare
label_class-requires-clause-bare c = omega (arith, c.label_of.ensures, c.if-label_of.true)

pub label_class-requires-clause-numbers : goal.label_class-requires-clause-numbers
label_class-requires-clause-numbers c = c.loop-left.invariant.numbers

pub label_class-requires-clause-waiting : goal.label_class-requires-clause-waiting
label_class-requires-clause-waiting c = c.loop-left.invariant.waiting

pub returns-clause-numbers : goal.returns-clause-numbers
returns-clause-numbers c = c.loop-left.invariant.numbers

pub returns-clause-labels : goal.returns-clause-labels
returns-clause-labels c =
    let none : c.loop-left.left ≡ 0 = omega arith in
    subst (λ k. AreLabelled c.args.graph.now.edges (length c.args.graph.now.nodes) c.args.order.now k c.loop-left.table.labels) none c.loop-left.invariant.labels
