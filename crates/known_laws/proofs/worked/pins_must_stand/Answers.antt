use Rattle.known_laws.proofs.SmallPasts.{unstanding}
use Rattle.known_laws.proofs.worked.pins_must_stand.Goals as goal

pub returns : goal.returns
returns c = unstanding
