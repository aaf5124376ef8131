use Rattle.std.proofs.Common.{take}
use Rattle.compare_pass.specs.Searching.{AreMarked, Visits}
use Rattle.compare_pass.proofs.search.visit.Given as goal

abbrev pub invariant-loop-y : goal.invariant-loop-y
invariant-loop-y l = record {
  marking : AreMarked l.marks l.found.items;
  visits : Visits (take l.y-index l.row) l.initial.found.items l.found.items;
}
