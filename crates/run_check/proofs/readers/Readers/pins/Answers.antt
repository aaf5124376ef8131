use Rattle.run_check.proofs.Pins.{behind_first}
use Rattle.run_check.proofs.readers.Readers.pins.Goals as goal

pub returns : goal.returns
returns c = behind_first c.args.self.now.pins c.requires
