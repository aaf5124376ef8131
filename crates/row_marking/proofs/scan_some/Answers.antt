-- One more grey row is scanned in each turn.
use Rattle.std.proofs.Common.{◌∙◌, ◌≤◌, refl, arith}
use Rattle.row_marking.proofs.Greys.{blackens-count, grey-head, grey-goes, greys-short, blackens-goes}
use Rattle.row_marking.proofs.scan_some.Goals as goal

pub loop-head-init : goal.loop-head-init
loop-head-init g c = record { kept = refl; most = omega arith; list = c.requires; steps = λ greys w. record { waits = greys; chained = w; steps = (refl, refl) } }

pub link-head-requires : goal.link-head-requires
link-head-requires g c = grey-head _ _ _ (omega (arith, c.loop-head-test.true)) c.loop-head.invariant.list

pub loop-head-smaller : goal.loop-head-smaller
loop-head-smaller g c = omega arith

pub loop-head-preserved : goal.loop-head-preserved
loop-head-preserved g c =
    let one : 1 ≤ c.loop-head.head = omega (arith, c.loop-head-test.true) in
    let step = rw c.loop-head.invariant.kept at c.scan.ensures.greyed in
    record {
      kept = c.scan.ensures.kept ∙ c.loop-head.invariant.kept;
      most = omega arith;
      list = grey-goes _ _ _ c.loop-head.head c.link-head.result _ _ _ one c.link-head.ensures.link c.loop-head.invariant.list step;
      steps = λ greys w. blackens-goes _ c.loop-head.scanned _ greys _ _ c.loop-head.head c.link-head.result _ _ _ one c.link-head.ensures.link (c.loop-head.invariant.steps greys w) step;
    }

pub returns-else-scanned-most-clause-kept : goal.returns-else-scanned-most-clause-kept
returns-else-scanned-most-clause-kept g c = c.loop-head.invariant.kept

pub returns-else-scanned-most-clause-steps : goal.returns-else-scanned-most-clause-steps
returns-else-scanned-most-clause-steps g c = c.loop-head.invariant.steps

pub returns-else-scanned-most-clause-most : goal.returns-else-scanned-most-clause-most
returns-else-scanned-most-clause-most g c = c.loop-head.invariant.most

pub returns-after-loop-head-clause-kept : goal.returns-after-loop-head-clause-kept
returns-after-loop-head-clause-kept g c = c.loop-head.invariant.kept

pub returns-after-loop-head-clause-steps : goal.returns-after-loop-head-clause-steps
returns-after-loop-head-clause-steps g c = c.loop-head.invariant.steps

pub returns-after-loop-head-clause-most : goal.returns-after-loop-head-clause-most
returns-after-loop-head-clause-most g c = c.loop-head.invariant.most

pub returns-else-scanned-most-clause-few : goal.returns-else-scanned-most-clause-few
returns-else-scanned-most-clause-few g c =
    let s = c.loop-head.invariant.steps c.requires.0 c.requires.1 in
    omega (arith, blackens-count _ c.loop-head.scanned _ _ _ s.waits s.steps, greys-short _ _ _ c.requires.0 c.requires.1.chain c.requires.1.marked)

pub returns-after-loop-head-clause-few : goal.returns-after-loop-head-clause-few
returns-after-loop-head-clause-few g c =
    let s = c.loop-head.invariant.steps c.requires.0 c.requires.1 in
    omega (arith, blackens-count _ c.loop-head.scanned _ _ _ s.waits s.steps, greys-short _ _ _ c.requires.0 c.requires.1.chain c.requires.1.marked)
