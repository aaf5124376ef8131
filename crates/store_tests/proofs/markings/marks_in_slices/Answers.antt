-- A slice leaves the list of the rows that are grey then.
use Rattle.store_tests.proofs.Begun.{grey-begun}
use Rattle.store_tests.proofs.markings.marks_in_slices.Goals as goal

pub scan_some-grey-requires : goal.scan_some-grey-requires
scan_some-grey-requires g c = grey-begun _ _ _ _ _ _ c.visit.ensures.greyed

pub scan_some-grey-requires-2 : goal.scan_some-grey-requires-2
scan_some-grey-requires-2 g c = (let w = grey-begun _ _ _ _ _ _ c.visit.ensures.greyed in let s = c.scan_some-grey.ensures.steps w.0 w.1 in (s.waits, s.chained))
