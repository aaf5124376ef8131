-- The numbers and the names of the causes for which a report is refused.
-- Believed: the clauses of the program's top call rest on all that stands here.
use Rattle.std.specs.Prelude.{ℕ, List, codes}
use Rattle.report_reader.specs.declared.faults.ReportCause.{ReportCause}
use Rattle.report_reader.specs.declared.faults.ReportCause.TheVariants as cause

-- the number of a cause, as it is printed (those of a script are 1 to 9)
abbrev pub cause_number : ReportCause → ℕ
cause_number cause.Form = 14
cause_number cause.Ending = 15

-- the name of a cause, as it is printed
abbrev pub cause_name : ReportCause → List ℕ
cause_name cause.Form = codes "form"
cause_name cause.Ending = codes "ending"
