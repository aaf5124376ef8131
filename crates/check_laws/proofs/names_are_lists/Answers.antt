use Rattle.check_laws.proofs.Naming.{names_lists}
use Rattle.check_laws.proofs.names_are_lists.Goals as goal

pub returns : goal.returns
returns c = names_lists
