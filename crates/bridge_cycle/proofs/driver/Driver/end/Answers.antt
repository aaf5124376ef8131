-- An idle driver has no phase left.
use Rattle.std.proofs.Common.{rules}
use Rattle.bridge_cycle.proofs.Composed.{idle_runs}
use Rattle.bridge_cycle.proofs.driver.Driver.end.Goals as goal

pub returns-then-eq-clause-ok : goal.returns-then-eq-clause-ok
returns-then-eq-clause-ok g c = idle_runs c.args.self.now c.args.index (search rules)
