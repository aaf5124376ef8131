-- Linked histories are read of their reports, but for the notices that weren't taken.
use Rattle.std.specs.Prelude.{◌<◌, ◌^◌, List, length}
use Rattle.joint_machine.specs.Histories.{Finished}
use Rattle.joint_machine.specs.LinkedHistories.{IsLinked, IsLinkedBy}
use Rattle.joint_machine.specs.Told.{Noted}
use Rattle.history_report.specs.Report.{report}
use Rattle.report_reader.specs.Reading.{IsReadAs, IsValue}
use Rattle.report_reader.specs.Answers.{as_named}

-- the report of a linked history is read as that history, without the notices that weren't taken
abbrev pub LinkedIsRead : Type 0
LinkedIsRead = (h : Finished) → IsLinked h → IsValue h → length (report h) < 2 ^ 32 → IsReadAs (report h) (as_named h)

-- which is linked as it was, by the same notes
abbrev pub NamedIsLinked : Type 0
NamedIsLinked = (h : Finished) (noted : List Noted) → IsLinkedBy h noted → IsLinkedBy (as_named h) noted
