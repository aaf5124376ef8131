use Rattle.std.proofs.Common.{◌≡◌, ℕ, length, get_or, ◌∙◌, ap, arith, inl, inr}
use Rattle.std.proofs.lemmas.Bool.{cases_lt}
use Rattle.component_pass.proofs.Strong.{nothing-seen, finished-classes, finished-order}
use Rattle.component_pass.proofs.tarjan.visit_all.Goals as goal
use Rattle.component_pass.proofs.tarjan.visit_all.Goals.{then-marks-root-eq-UNSEEN+in_ok-walk, else-marks-root-eq-UNSEEN}

pub loop-root-init : goal.loop-root-init
loop-root-init c =
    let part = c.nodes-root-end.ensures.part in
    record {
      going = rw (c.requires.stack, c.requires.rows) (nothing-seen c.args.graph.now.edges
          (length c.args.graph.now.nodes) part.in_range part.few c.args.marks.now c.args.labels.now c.requires.marks c.requires.labels c.requires.unseen);
      frames = c.requires.frames;
      seen = λ x lt. absurd (omega (arith, lt));
    }

pub returns-clause-classes : goal.returns-clause-classes
returns-clause-classes c =
    let part = c.nodes-root-end.ensures.part in
    let i = c.loop-root.invariant in
    finished-classes c.args.graph.now.edges (length c.args.graph.now.nodes) part.in_range part.few c.loop-root.stack.items
    c.loop-root.marks c.loop-root.labels c.loop-root.rows i.going (λ x lt. i.seen x (omega arith))

pub returns-clause-order : goal.returns-clause-order
returns-clause-order c =
    let part = c.nodes-root-end.ensures.part in
    let i = c.loop-root.invariant in
    finished-order c.args.graph.now.edges (length c.args.graph.now.nodes) part.in_range part.few c.loop-root.stack.items
    c.loop-root.marks c.loop-root.labels c.loop-root.rows part.rows i.going (λ x lt. i.seen x (omega arith))

pub loop-root-preserved : goal.loop-root-preserved
loop-root-preserved c =
    let i = c.loop-root.invariant in
    let root : ℕ = c.loop-root.root in
    elim c.if-marks-root-eq-UNSEEN.branch [
      | then-marks-root-eq-UNSEEN+in_ok-walk w ↦
          let e = w.in_ok-walk.ensures in
          rw (w.marks-is, w.labels-is, w.rows-is, w.stack-is, w.frames-is) record {
            going = e.going;
            frames = e.frames;
            seen = λ x lt. elim (cases_lt x root) [
              | inl l ↦ e.kept x (i.seen x l)
              | inr ge ↦ let is : root ≡ x = omega (arith, lt, ge) in λ z. e.root (ap (λ (y : ℕ). get_or w.walk.new.marks y 0) is ∙ z)
            ];
          }
      | else-marks-root-eq-UNSEEN w ↦ rw (w.marks-is, w.labels-is, w.rows-is, w.stack-is, w.frames-is) record {
        going = i.going;
        frames = i.frames;
        seen = λ x lt. elim (cases_lt x root) [
          | inl l ↦ i.seen x l
          | inr ge ↦ let is : root ≡ x = omega (arith, lt, ge) in λ z. w.if-marks-root-eq-UNSEEN.false (ap (λ (y : ℕ). get_or c.loop-root.marks y 0) is ∙ z)
        ];
      }
    ]

pub walk-requires-clause-going : goal.walk-requires-clause-going
walk-requires-clause-going c = c.loop-root.invariant.going
