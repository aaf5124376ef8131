-- By the lemmas.
use Rattle.marking_laws.proofs.SliceEvents.{going-all, going-can_free, going-shut, going-sweep}
use Rattle.marking_laws.proofs.slices.slices_end.Goals as goal

pub returns-clause-all : goal.returns-clause-all
returns-clause-all c = going-all

pub returns-clause-sweep : goal.returns-clause-sweep
returns-clause-sweep c = going-sweep

pub returns-clause-shut : goal.returns-clause-shut
returns-clause-shut c = going-shut

pub returns-clause-safe : goal.returns-clause-safe
returns-clause-safe c = going-can_free
