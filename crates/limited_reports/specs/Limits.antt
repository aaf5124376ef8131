-- A text that is longer than a limit: which of its lines holds the first byte behind the limit, where the lines before
-- it are those of a report, and else which line before it is wrong. And what taking a report from a source does to it.
-- Believed: the clauses of the program's top call rest on all that stands here.
use Rattle.std.specs.Prelude.{◌≡◌, ℕ, ◌+◌, ◌<◌, ◌≤◌, ◌⊎◌, Bool, List, Option, length}
use Rattle.byte_streams.specs.Reading.{Took}
use Rattle.text_limits.specs.Limits.{IsFrontOf}
use Rattle.report_reader.specs.declared.faults.ReportFault.{ReportFault}
use Rattle.report_reader.specs.Faults.{AreEntryLines, IsFaultyLine, IsNoReport, IsReportFault, front, front_count}
use Rattle.limited_reports.specs.declared.limits.TakeError.{TakeError}
use Rattle.limited_reports.specs.declared.limits.TakeError.TheVariants.{OutOfMemory, ReadFault, Refused, Long}

-- the lines before it are those of entries, perhaps with the last line of their report, and it has that number
pub record IsLongLine (most : ℕ) (bytes : List ℕ) (number : ℕ) : Type 0 where
  pub before : List ℕ
  pub cut : IsFrontOf most bytes before
  pub texts : List (List ℕ)
  pub lines : AreEntryLines 0 texts
  pub ended : Bool
  pub same : before ≡ front texts ended
  pub number_is : number ≡ front_count texts ended + 1

-- a line before it is the first that is wrong, and this is why
pub record IsFaultBefore (most : ℕ) (bytes : List ℕ) (fault : ReportFault) : Type 0 where
  pub before : List ℕ
  pub cut : IsFrontOf most bytes before
  pub wrong : IsFaultyLine before fault

-- bytes within the limit are no report, and this is their first line with a cause, or the place behind all lines
pub record IsWrongReport (most : ℕ) (bytes : List ℕ) (fault : ReportFault) : Type 0 where
  pub size : length bytes ≤ most
  pub wrong : IsReportFault bytes fault
  pub none : IsNoReport bytes

-- why bytes give no report within the limit: no memory, or a line is wrong, or there are more
abbrev pub IsNoneWithin : ℕ → List ℕ → TakeError → Type 0
IsNoneWithin most bytes OutOfMemory = Unit {0}
IsNoneWithin most bytes ReadFault = ⊥
IsNoneWithin most bytes (Refused fault) = IsWrongReport most bytes fault
    ⊎ ((most < length bytes) × IsFaultBefore most bytes fault)
IsNoneWithin most bytes (Long line) = (most < length bytes) × IsLongLine most bytes line

-- the source was read to its end or up to one byte past the limit, and what was taken gives no report
pub record TookWrong (most : ℕ) (left rest : Option (List ℕ)) (error : TakeError) : Type 0 where
  pub input : List ℕ
  pub took : Took most left rest input
  pub wrong : IsNoneWithin most input error
