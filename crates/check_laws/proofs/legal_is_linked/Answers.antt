use Rattle.check_laws.proofs.Linking.{legal_linked, linked_runs}
use Rattle.check_laws.proofs.legal_is_linked.Goals as goal

pub returns-clause-linked : goal.returns-clause-linked
returns-clause-linked c = legal_linked

pub returns-clause-runs : goal.returns-clause-runs
returns-clause-runs c = linked_runs
