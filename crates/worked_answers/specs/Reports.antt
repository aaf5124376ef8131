-- The fault of bytes that are no report.
use Rattle.std.specs.Prelude.{◌≡◌, []}
use Rattle.report_reader.specs.declared.faults.ReportCause.TheVariants as cause
use Rattle.report_reader.specs.declared.faults.ReportFault.{ReportFault}
use Rattle.report_reader.specs.Faults.{IsReportFault}
use Rattle.worked_answers.specs.Logs.{no_line}

-- the line's form is none of a report's, or the last line is missing
abbrev pub first_misformed : ReportFault
first_misformed = record { line = 1; cause = cause.Form }

abbrev pub first_missing : ReportFault
first_missing = record { line = 1; cause = cause.Ending }

-- a line that no report has is the one fault of its bytes; and so is the last line's want where there is none
pub record ReportFaultsAreTold : Type 0 where
  pub found : IsReportFault no_line first_misformed
  pub alone : (fault : ReportFault) → IsReportFault no_line fault → (fault.line ≡ 1) × (fault.cause ≡ cause.Form)
  pub missing : IsReportFault [] first_missing
  pub alone_missing : (fault : ReportFault) → IsReportFault [] fault → (fault.line ≡ 1) × (fault.cause ≡ cause.Ending)
