use Rattle.std.proofs.lemmas.List.{get_or_default}
use Rattle.std.proofs.Common.{arith}
use Rattle.component_pass.specs.Tarjan.{done_mark}
use Rattle.component_pass.proofs.Keeping.{set-taken, set-others}
use Rattle.component_pass.proofs.tarjan.settle.Goals as goal

pub returns-clause-taken : goal.returns-clause-taken
returns-clause-taken c = λ k d lt. rw (get_or_default c.args.class.now k d 0 lt) (c.loop-x.invariant.taken k (omega arith))

pub loop-x-preserved : goal.loop-x-preserved
loop-x-preserved c =
    let i = c.loop-x.invariant in
    let class = c.args.class.now in
    let at = c.loop-x.x-index in
    let marks = c.requires.marks at 0 c.loop-x-test.true in
    let labels = c.requires.labels at 0 c.loop-x-test.true in
    record {
      taken = λ k lt. (
        set-taken 0 class c.loop-x.marks at done_mark k (omega (arith, marks)) lt (λ l. (i.taken k l).0),
        set-taken 0 class c.loop-x.labels at c.args.label k (omega (arith, labels)) lt (λ l. (i.taken k l).1),
      );
      others = λ y out. (
        set-others 0 class c.loop-x.marks c.args.marks.now at done_mark y c.loop-x-test.true out (i.others y out).0,
        set-others 0 class c.loop-x.labels c.args.labels.now at c.args.label y c.loop-x-test.true out (i.others y out).1,
      );
    }

pub returns-clause-others : goal.returns-clause-others
returns-clause-others c = c.loop-x.invariant.others

pub bounds-marks-x : goal.bounds-marks-x
bounds-marks-x c = omega (arith, c.requires.marks c.loop-x.x-index 0 c.loop-x-test.true)

pub bounds-labels-x : goal.bounds-labels-x
bounds-labels-x c = omega (arith, c.requires.labels c.loop-x.x-index 0 c.loop-x-test.true)
