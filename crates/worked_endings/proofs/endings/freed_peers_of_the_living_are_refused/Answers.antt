use Rattle.worked_endings.proofs.Kept.{peers_kept}
use Rattle.worked_endings.proofs.endings.freed_peers_of_the_living_are_refused.Goals as goal

pub returns : goal.returns
returns c = peers_kept
