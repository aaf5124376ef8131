use Rattle.bridge_cycle.proofs.Refusals.{held_first}
use Rattle.bridge_cycle.proofs.driver.Driver.new.Goals as goal

pub invariant_of-result : goal.invariant_of-result
invariant_of-result g c = (c.requires.driver, held_first c.args.caller record { 0 = 0 } c.requires.driver c.requires.idle)
