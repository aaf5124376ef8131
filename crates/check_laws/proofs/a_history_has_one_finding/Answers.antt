use Rattle.check_laws.proofs.OneFinding.{one_finding}
use Rattle.check_laws.proofs.a_history_has_one_finding.Goals as goal

pub returns : goal.returns
returns c = one_finding
