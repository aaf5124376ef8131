-- When bytes are the report of a linked history, and that this is where the history that they are read as is legal.
use Rattle.std.specs.Prelude.{◌≡◌, ℕ, ◌<◌, ◌^◌, ◌↔◌, List, length}
use Rattle.joint_machine.specs.Histories.{Finished}
use Rattle.report_reader.specs.Reading.{IsReadAs}
use Rattle.check_laws.specs.declared.findings.Finding.{Finding}
use Rattle.check_laws.specs.declared.findings.Finding.TheVariants as finding
use Rattle.check_laws.specs.Findings.{IsFinding}
use Rattle.legal_reports.specs.Reports.{IsReportOfRun}

-- the history that bytes are read as is legal exactly where they are such a report
abbrev pub LegalIsReport : Type 0
LegalIsReport = (bytes : List ℕ) (h : Finished) → length bytes < 2 ^ 32
    → IsReadAs bytes h → IsFinding h finding.Legal ↔ IsReportOfRun bytes (length h.entries)

-- so whatever it is found to be, that is legal exactly there
abbrev pub FoundLegalIsReport : Type 0
FoundLegalIsReport = (bytes : List ℕ) (h : Finished) (f : Finding) → length bytes < 2 ^ 32
    → IsReadAs bytes h → IsFinding h f → (f ≡ finding.Legal) ↔ IsReportOfRun bytes (length h.entries)
