use Rattle.report_laws.proofs.Linked.{linked_is_read, named_is_linked}
use Rattle.report_laws.proofs.laws.linked_reports_are_read.Goals as goal

pub returns-clause-read : goal.returns-clause-read
returns-clause-read c = linked_is_read

pub returns-clause-linked : goal.returns-clause-linked
returns-clause-linked c = named_is_linked
