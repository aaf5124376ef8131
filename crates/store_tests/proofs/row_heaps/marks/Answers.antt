-- The first object alone is grey.
use Rattle.store_tests.proofs.Begun.{grey-begun}
use Rattle.store_tests.proofs.row_heaps.marks.Goals as goal

pub mark_some-scanned-requires : goal.mark_some-scanned-requires
mark_some-scanned-requires c = grey-begun _ _ _ _ _ _ c.visit.ensures.greyed
