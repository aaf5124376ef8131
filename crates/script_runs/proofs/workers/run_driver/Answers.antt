use Rattle.std.proofs.Common.{subst, sym}
use Rattle.script_runs.specs.Running.{HasRunLines}
use Rattle.script_runs.proofs.workers.run_driver.Goals as goal
use Rattle.bridge_cycle.proofs.Refusals.{idle_first}

pub new-driver-requires-clause-idle : goal.new-driver-requires-clause-idle
new-driver-requires-clause-idle g c = idle_first c.args.caller c.requires.new

pub returns-in-Ok : goal.returns-in-Ok
returns-in-Ok g c = subst (λ t. HasRunLines c.args.script.now t c.retire.result) (sym c.requires.thread) (c.in-Ok.ensures.ok c.retire.result c.retire.ensures.pass c.retire.ensures.idle)
