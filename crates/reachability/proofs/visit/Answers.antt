-- A node that isn't marked gets its mark and waits; there is room for it, since room is kept for each node
-- that isn't marked.
use Rattle.std.proofs.Common.{◌≡◌, true, false, Some, arith}
use Rattle.std.specs.Prelude.{slice_get}
use Rattle.reachability.proofs.Marking.{Scans-new, Scans-seen, unmarked-set, read-mark}
use Rattle.reachability.proofs.visit.Goals as goal

pub push_reserved-requires : goal.push_reserved-requires
push_reserved-requires c =
    let new : slice_get c.args.marks.now c.args.y ≡ Some false = read-mark c.args.marks.now c.args.y false c.requires.node c.if-not-marks-y.true in
    omega (arith, c.args.waiting.now.ok, c.requires.room, unmarked-set c.args.marks.now c.args.y new)

pub returns-then-not-marks-y-clause-scans : goal.returns-then-not-marks-y-clause-scans
returns-then-not-marks-y-clause-scans c =
    rw c.push_reserved.ensures.items (Scans-new c.args.y c.args.marks.now c.args.waiting.now.items (read-mark c.args.marks.now c.args.y false c.requires.node c.if-not-marks-y.true) c.requires.node)

pub returns-else-not-marks-y-clause-scans : goal.returns-else-not-marks-y-clause-scans
returns-else-not-marks-y-clause-scans c = Scans-seen c.args.y c.args.marks.now c.args.waiting.now.items (read-mark c.args.marks.now c.args.y true c.requires.node c.if-not-marks-y.false)
