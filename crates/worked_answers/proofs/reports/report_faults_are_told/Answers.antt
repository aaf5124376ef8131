use Rattle.worked_answers.proofs.ReportsTold.{report_faults_are_told}
use Rattle.worked_answers.proofs.reports.report_faults_are_told.Goals as goal

pub returns : goal.returns
returns c = report_faults_are_told
