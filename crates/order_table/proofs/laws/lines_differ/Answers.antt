use Rattle.order_table.proofs.Wholes.{roles_differ, callers_differ}
use Rattle.order_table.proofs.laws.lines_differ.Goals as goal

pub returns-clause-roles : goal.returns-clause-roles
returns-clause-roles c = roles_differ

pub returns-clause-callers : goal.returns-clause-callers
returns-clause-callers c = callers_differ
