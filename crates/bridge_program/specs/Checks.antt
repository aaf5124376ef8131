-- What the command on reports promises: what the history of a report is found to be, or why the input is none.
-- Believed: the clauses of the program's top call rest on all that stands here.
use Rattle.std.specs.Prelude.{◌≡◌, ℕ, ◌≤◌, List, Option, Some, length}
use Rattle.joint_machine.specs.Histories.{Finished}
use Rattle.byte_streams.specs.Faults.{Rose}
use Rattle.report_reader.specs.Reading.{IsReadAs}
use Rattle.judged_reports.specs.Answering.{FindingPut, RefusalPut}
use Rattle.command_words.specs.declared.commands.Command.TheVariants as command
use Rattle.command_words.specs.Commands.{AreWordsOf}

-- the most bytes of a report
abbrev pub MOST_REPORT_BYTES : ℕ
MOST_REPORT_BYTES = 268435456

-- `Put` says what was done with the text that is due: all of it was appended to what the sink held, or a beginning

-- what a report was found to be is due where the words ask for that: the source was read to its end within the limit,
-- the bytes are read as a history, and the text is what that one is found to be, legal exactly where the bytes are the
-- report of a linked history whose joint projection is a sound and complete run
pub record CheckPut (words : List (List ℕ)) (left rest : Option (List ℕ)) (Put : List ℕ → Type 0) : Type 0 where
  pub command : AreWordsOf words command.Check
  pub put : FindingPut MOST_REPORT_BYTES left rest Put

-- and a refusal of what is no report: the first line that is wrong, with its cause, or the line that holds the first
-- byte behind the limit
pub record ReportRefusalPut (words : List (List ℕ)) (left rest : Option (List ℕ)) (Put : List ℕ → Type 0) : Type 0 where
  pub command : AreWordsOf words command.Check
  pub put : RefusalPut MOST_REPORT_BYTES left rest Put

-- the words ask for a report to be judged, the source has one within the limit, and neither count of faults rose
pub record MayCheck (words : List (List ℕ)) (left : Option (List ℕ))
    (read_before read_now write_before write_now : ℕ) : Type 0 where
  pub command : AreWordsOf words command.Check
  pub history : Finished
  pub input : List ℕ
  pub gives : left ≡ Some input
  pub text : IsReadAs input history
  pub short : length input ≤ MOST_REPORT_BYTES
  pub read : Rose read_before read_now → ⊥
  pub written : Rose write_before write_now → ⊥
