use Rattle.legal_reports.proofs.Legal.{found_report, legal_report}
use Rattle.legal_reports.proofs.legal_is_report.Goals as goal

pub returns-clause-legal : goal.returns-clause-legal
returns-clause-legal c = legal_report

pub returns-clause-found : goal.returns-clause-found
returns-clause-found c = found_report
