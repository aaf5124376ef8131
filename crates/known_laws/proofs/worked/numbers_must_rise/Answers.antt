use Rattle.known_laws.proofs.SmallPasts.{comes, unknown}
use Rattle.known_laws.proofs.worked.numbers_must_rise.Goals as goal

pub returns : goal.returns
returns c = record { comes = comes; unknown = unknown }
