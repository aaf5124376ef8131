-- A row that isn't marked gets its mark and comes first in the grey list; a marked one is left alone.
use Rattle.row_heap.proofs.Marked.{greyed-row, greyed-seen, raises-row, raises-seen}
use Rattle.row_heap.proofs.places.visit_row.Goals as goal

pub returns-then-not-marks-place-clause-greyed : goal.returns-then-not-marks-place-clause-greyed
returns-then-not-marks-place-clause-greyed c = greyed-row c.args.y c.args.marks.now c.args.links.now c.args.grey.now c.requires.row.0 c.requires.row.1 c.requires.len c.if-not-marks-place.true

pub returns-else-not-marks-place-clause-greyed : goal.returns-else-not-marks-place-clause-greyed
returns-else-not-marks-place-clause-greyed c = greyed-seen c.args.y c.args.marks.now _ c.args.grey.now c.requires.row.0 c.requires.row.1 c.if-not-marks-place.false

pub returns-then-not-marks-place-clause-raised : goal.returns-then-not-marks-place-clause-raised
returns-then-not-marks-place-clause-raised c = raises-row c.args.y c.args.marks.now c.requires.row.0 c.requires.row.1

pub returns-else-not-marks-place-clause-raised : goal.returns-else-not-marks-place-clause-raised
returns-else-not-marks-place-clause-raised c = raises-seen c.args.y c.args.marks.now c.requires.row.0 c.requires.row.1 c.if-not-marks-place.false
