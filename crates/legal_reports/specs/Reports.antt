-- When bytes are the report of a linked history.
-- Believed: the clauses of the program's top call rest on all that stands here.
use Rattle.std.specs.Prelude.{◌≡◌, ℕ, List, length}
use Rattle.joint_machine.specs.Histories.{Finished}
use Rattle.joint_machine.specs.LinkedHistories.{IsLinked}
use Rattle.history_report.specs.Report.{report}
use Rattle.report_reader.specs.Reading.{IsValue}
use Rattle.check_laws.specs.Findings.{HasSoundAndCompleteRun}

-- the bytes are the report of a linked history with so many entries, whose joint projection is a sound and complete run
pub record IsReportOfRun (bytes : List ℕ) (count : ℕ) : Type 0 where
  pub history : Finished
  pub value : IsValue history
  pub linked : IsLinked history
  pub runs : HasSoundAndCompleteRun history
  pub counted : length history.entries ≡ count
  pub text : bytes ≡ report history
