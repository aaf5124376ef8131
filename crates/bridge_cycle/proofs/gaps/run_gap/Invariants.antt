use Rattle.std.proofs.Common.{◌≤◌, length}
use Rattle.bridge_cycle.specs.Progress.{line_of}
use Rattle.bridge_cycle.specs.Words.{to_come}
use Rattle.bridge_cycle.proofs.Gapped.{IsMidCycle}
use Rattle.bridge_cycle.proofs.gaps.run_gap.Given as goal

abbrev pub invariant-phases : goal.invariant-phases
invariant-phases g l = IsMidCycle l.initial.driver l.driver l.index (g.G.Gap.count l.between) × (line_of l.driver ≤ l.index)

abbrev pub decreases-phases : goal.decreases-phases
decreases-phases g l = length (to_come l.driver.phase)
