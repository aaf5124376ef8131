use Rattle.std.proofs.Common.{length, arith}
use Rattle.cycle_check.specs.Judging.{IsKept}
use Rattle.cycle_check.proofs.Holding.{holding}
use Rattle.cycle_check.proofs.Lists.{listed-below}
use Rattle.cycle_check.proofs.outcome.mark_held.Goals as goal

pub mark_rows-requires-clause-roots : goal.mark_rows-requires-clause-roots
mark_rows-requires-clause-roots c = rw c.deref.ensures.value (listed-below (λ d. IsKept c.args.kinds.now c.args.kept.now d) c.in_ok-roots.roots.items (length c.args.kinds.now) (length c.args.starts.now)
    (omega (arith, c.requires.rows.count)) c.in_ok-roots.ensures)

pub returns : goal.returns
returns c = holding c.args.kinds.now c.args.starts.now c.args.targets.now c.args.kept.now c.in_ok-marks.marks.items c.in_ok-roots.roots.items
    (omega (arith, c.in_ok-marks.ensures.len, c.requires.rows.count)) c.in_ok-roots.ensures (rw c.deref.ensures.value at c.in_ok-marks.ensures.marks)
