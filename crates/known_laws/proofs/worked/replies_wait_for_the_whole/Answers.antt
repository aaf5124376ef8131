use Rattle.known_laws.proofs.SmallPasts.{unjudged}
use Rattle.known_laws.proofs.worked.replies_wait_for_the_whole.Goals as goal

pub returns : goal.returns
returns c = unjudged
