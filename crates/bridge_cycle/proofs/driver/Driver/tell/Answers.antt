use Rattle.std.proofs.Common.{ap}
use Rattle.joint_history.proofs.DriverHears.{driver_same}
use Rattle.bridge_cycle.specs.Progress.{Progress}
use Rattle.bridge_cycle.proofs.Making.{driver_seen}
use Rattle.bridge_cycle.proofs.Refusals.{heard_of, held_on}
use Rattle.bridge_cycle.proofs.driver.Driver.tell.Goals as goal

pub invariant_of-self : goal.invariant_of-self
invariant_of-self g c = (
  driver_seen c.tell.ensures.from.thread c.self.invariant.0,
  held_on _ c.tell.new.from.view (λ index stand seen s. driver_same c.self.inside.caller.view c.tell.new.from.view index stand seen c.tell.ensures.from.same s) c.self.invariant.1,
)

pub returns-clause-to : goal.returns-clause-to
returns-clause-to g c = heard_of c.self.inside.caller _ _ c.args.self.now (ap (λ (d : Progress). d.view) c.self.view_is) c.tell.ensures.to
