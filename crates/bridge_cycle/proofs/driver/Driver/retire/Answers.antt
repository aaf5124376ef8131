use Rattle.std.proofs.Common.{◌∙◌, ap, refl}
use Rattle.bridge_cycle.specs.Progress.{Progress}
use Rattle.bridge_cycle.proofs.Refusals.{driver_is, idle_again}
use Rattle.bridge_cycle.proofs.driver.Driver.retire.Goals as goal

pub returns-clause-idle : goal.returns-clause-idle
returns-clause-idle g c = idle_again c.self.inside.caller _ refl (ap (λ (d : Progress). d.phase) c.self.view_is ∙ c.requires) c.self.invariant.1

pub returns-clause-pass : goal.returns-clause-pass
returns-clause-pass g c = driver_is c.self.inside.caller c.args.self c.self.invariant.0 c.recall_facts.ensures.reads (ap (λ (d : Progress). d.view) c.self.view_is)
