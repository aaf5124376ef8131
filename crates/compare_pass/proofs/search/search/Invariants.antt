use Rattle.std.proofs.Common.{◌-◌, length, get_or}
use Rattle.compare_pass.specs.Searching.{Goes}
use Rattle.compare_pass.proofs.Finding.{Searching}
use Rattle.compare_pass.proofs.search.search.Given as goal

abbrev pub invariant-loop-at : goal.invariant-loop-at
invariant-loop-at l = Searching (Goes l.graph.edges l.labels l.indexes (get_or l.labels l.start 0)) l.start l.marks l.found.items l.at

abbrev pub decreases-loop-at : goal.decreases-loop-at
decreases-loop-at l = length l.marks - l.at
