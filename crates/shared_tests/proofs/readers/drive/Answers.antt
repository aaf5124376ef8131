use Rattle.bridge_cycle.proofs.Refusals.{idle_first}
use Rattle.shared_tests.proofs.readers.drive.Goals as goal

pub new-driver-requires-clause-idle : goal.new-driver-requires-clause-idle
new-driver-requires-clause-idle g c = idle_first c.args.caller c.requires.new
