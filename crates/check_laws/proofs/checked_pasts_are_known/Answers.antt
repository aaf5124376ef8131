use Rattle.check_laws.proofs.Knows.{pasts_known}
use Rattle.check_laws.proofs.checked_pasts_are_known.Goals as goal

pub returns : goal.returns
returns c = pasts_known
