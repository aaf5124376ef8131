use Rattle.known_laws.proofs.KnownPasts.{past_invariant_holds as law}
use Rattle.known_laws.proofs.past_invariant_holds.Goals as goal

pub returns : goal.returns
returns c = law
