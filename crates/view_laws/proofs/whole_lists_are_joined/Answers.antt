use Rattle.view_laws.proofs.Finished.{own_lines_are_made_by_callers}
use Rattle.view_laws.proofs.Joined.{whole_lists_are_joined, whole_lists_are_shuffle}
use Rattle.view_laws.proofs.whole_lists_are_joined.Goals as goal

pub returns-clause-shuffle : goal.returns-clause-shuffle
returns-clause-shuffle c = whole_lists_are_shuffle

pub returns-clause-joined : goal.returns-clause-joined
returns-clause-joined c = whole_lists_are_joined

pub returns-clause-own : goal.returns-clause-own
returns-clause-own c = own_lines_are_made_by_callers
