use Rattle.known_laws.proofs.SmallPasts.{released}
use Rattle.known_laws.proofs.worked.gives_are_cited_once.Goals as goal

pub returns : goal.returns
returns c = released
