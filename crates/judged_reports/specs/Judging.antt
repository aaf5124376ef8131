-- What is answered of a report that a source gives.
-- Believed: the clauses of the program's top call rest on all that stands here.
use Rattle.std.specs.Prelude.{◌≡◌, ℕ, ◌≤◌, ◌↔◌, List, Option, length}
use Rattle.std.specs.Io.KnownBytes.{Consumes, IsAtEnd}
use Rattle.joint_machine.specs.Histories.{Finished}
use Rattle.report_reader.specs.Reading.{IsReadAs}
use Rattle.check_laws.specs.declared.findings.Finding.TheVariants as finding
use Rattle.check_laws.specs.Findings.{IsFinding}
use Rattle.legal_reports.specs.Reports.{IsReportOfRun}
use Rattle.judged_reports.specs.declared.judging.Judged.{Judged}

-- the source was read to its end, and what was taken is within the limit and is read as a history with so many entries,
-- of which that is found; it is legal exactly where the bytes are the report of a linked history whose joint projection
-- is a sound and complete run
pub record JudgedReport (most : ℕ) (left rest : Option (List ℕ)) (judged : Judged) : Type 0 where
  pub input : List ℕ
  pub taken : Consumes left rest input
  pub ended : IsAtEnd rest
  pub size : length input ≤ most
  pub history : Finished
  pub reads : IsReadAs input history
  pub found : IsFinding history judged.finding
  pub counted : judged.count ≡ length history.entries
  pub exact : (judged.finding ≡ finding.Legal) ↔ IsReportOfRun input judged.count
