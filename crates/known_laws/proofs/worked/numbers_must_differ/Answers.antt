use Rattle.known_laws.proofs.SmallPasts.{one, other, no_run, no_join}
use Rattle.known_laws.proofs.worked.numbers_must_differ.Goals as goal

pub returns : goal.returns
returns c = record { one = one; other = other; no_run = no_run; no_join = no_join }
