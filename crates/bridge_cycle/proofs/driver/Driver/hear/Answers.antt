use Rattle.std.proofs.Common.{ap, refl}
use Rattle.bridge_cycle.specs.Progress.{Progress}
use Rattle.bridge_cycle.proofs.Making.{driver_seen}
use Rattle.bridge_cycle.proofs.Refusals.{driver_hears, held_on}
use Rattle.bridge_cycle.proofs.driver.Driver.hear.Goals as goal

pub invariant_of-self : goal.invariant_of-self
invariant_of-self g c = (driver_seen c.tell.ensures.to.thread c.self.invariant.0, held_on _ c.tell.new.to.view (c.tell.ensures.driver c.self.invariant.0) c.self.invariant.1)

pub returns-clause-hears : goal.returns-clause-hears
returns-clause-hears g c = driver_hears c.args.from.now c.self.inside.caller c.tell.new.to c.args.self.now
    (record c.args.self.now { view = c.tell.new.to.view }) c.self.invariant.0 c.recall_facts.ensures.reads (ap (λ (d : Progress). d.view) c.self.view_is) refl c.tell.ensures.to
