use Rattle.report_reader.proofs.Back.{named_read, one_history}
use Rattle.report_reader.proofs.Each.{each_read}
use Rattle.report_reader.proofs.laws.reports_are_read.Goals as goal

pub returns-clause-one : goal.returns-clause-one
returns-clause-one c = one_history

pub returns-clause-any : goal.returns-clause-any
returns-clause-any c = each_read

pub returns-clause-named : goal.returns-clause-named
returns-clause-named c = named_read
