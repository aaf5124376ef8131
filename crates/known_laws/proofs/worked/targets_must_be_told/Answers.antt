use Rattle.known_laws.proofs.SmallPasts.{wrong}
use Rattle.known_laws.proofs.worked.targets_must_be_told.Goals as goal

pub returns : goal.returns
returns c = wrong
