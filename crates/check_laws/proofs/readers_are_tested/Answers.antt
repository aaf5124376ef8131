use Rattle.check_laws.proofs.Readers.{reader_tested}
use Rattle.check_laws.proofs.Tested.{readers_tested}
use Rattle.check_laws.proofs.readers_are_tested.Goals as goal

pub returns-clause-order : goal.returns-clause-order
returns-clause-order c = reader_tested

pub returns-clause-replies : goal.returns-clause-replies
returns-clause-replies c = readers_tested
