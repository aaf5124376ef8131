-- A marking begins with the heap and the references as they are.
use Rattle.std.proofs.Common.{subst, sym}
use Rattle.row_heap.specs.Marks.{AreEndsLive}
use Rattle.store_tests.proofs.row_heaps.shades.Goals as goal

pub shade_references-requires : goal.shade_references-requires
shade_references-requires c = subst AreEndsLive (sym c.begin_marking.ensures.rest) c.in_ok-refer_over.ensures.ends
