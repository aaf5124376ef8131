-- The marking goes on in each turn, and ends once no row is grey.
use Rattle.std.proofs.Common.{◌≡◌, ◌∙◌, ◌≤◌, arith}
use Rattle.row_marking.proofs.Greys.{Greying-goes, Greying-ends, Greying-closes, Greying-head, Greying-smaller}
use Rattle.row_marking.proofs.finish.Goals as goal

pub link-head-requires : goal.link-head-requires
link-head-requires g c = Greying-head _ _ _ _ _ c.loop-head.head (omega (arith, c.loop-head-test.true)) c.loop-head.invariant.goes.greying

pub loop-head-smaller : goal.loop-head-smaller
loop-head-smaller g c =
    let i = c.loop-head.invariant.goes.greying in
    Greying-smaller _ _ _ _ _ c.loop-head.head c.link-head.result _ _ _ (omega (arith, c.loop-head-test.true)) c.link-head.ensures.link i
    (rw c.loop-head.invariant.kept at c.scan.ensures.greyed)

pub loop-head-preserved : goal.loop-head-preserved
loop-head-preserved g c =
    let i = c.loop-head.invariant.goes.greying in
    let one : 1 ≤ c.loop-head.head = omega (arith, c.loop-head-test.true) in
    let step = rw c.loop-head.invariant.kept at c.scan.ensures.greyed in
    let next = Greying-goes _ _ _ _ _ c.loop-head.head c.link-head.result _ _ _ one c.link-head.ensures.link i step in
    record {
      kept = c.scan.ensures.kept ∙ c.loop-head.invariant.kept;
      goes = record { roots = c.loop-head.invariant.goes.roots; before = c.loop-head.invariant.goes.before; greying = next };
      greying = λ roots before b. Greying-goes _ _ _ _ _ c.loop-head.head c.link-head.result _ _ _ one c.link-head.ensures.link (c.loop-head.invariant.greying roots before b) step;
    }

pub returns-clause-marks : goal.returns-clause-marks
returns-clause-marks g c = λ roots before b k.
    let none : c.loop-head.head ≡ 0 = omega (arith, c.loop-head-test.false) in
    Greying-ends roots _ before _ _ (rw none at c.loop-head.invariant.greying roots before b) k

pub returns-clause-closed : goal.returns-clause-closed
returns-clause-closed g c =
    let none : c.loop-head.head ≡ 0 = omega (arith, c.loop-head-test.false) in
    let goes = rw none at c.loop-head.invariant.goes in
    rw c.loop-head.invariant.kept (Greying-closes goes.roots _ goes.before _ _ goes.greying)
