use Rattle.std.proofs.Common.{◌≤◌, length}
use Rattle.bridge_cycle.specs.Progress.{line_of}
use Rattle.bridge_cycle.specs.Words.{IsPartway, to_come}
use Rattle.bridge_cycle.proofs.driver.Driver.finish_cycle.Given as goal

abbrev pub invariant-phases : goal.invariant-phases
invariant-phases g l = IsPartway l.initial.self l.self l.index × (line_of l.self ≤ l.index)

abbrev pub decreases-phases : goal.decreases-phases
decreases-phases g l = length (to_come l.self.phase)
