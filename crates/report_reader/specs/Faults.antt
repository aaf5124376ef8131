-- Which line of bytes is the first that no report has, and why.
-- Believed: the clauses of the program's top call rest on all that stands here.
use Rattle.std.specs.Prelude.{◌≡◌, ◌≢◌, ℕ, ◌+◌, ◌<◌, ◌^◌, ◌⊎◌, Bool, true, false, List, [], ◌∷◌, ◌++◌, length, All}
use Rattle.joint_machine.specs.declared.events.Entry.{Entry}
use Rattle.joint_machine.specs.Histories.{Finished}
use Rattle.history_report.specs.Report.{report, end_text}
use Rattle.entry_reader.specs.Saying.{IsLineOf}
use Rattle.report_reader.specs.declared.faults.ReportCause.{ReportCause}
use Rattle.report_reader.specs.declared.faults.ReportCause.TheVariants as cause
use Rattle.report_reader.specs.declared.faults.ReportFault.{ReportFault}
use Rattle.report_reader.specs.Reading.{IsValue}

-- the text, without its newline, is the line of an entry with that number, whatever numbers its list has
pub record IsEntryText (number : ℕ) (text : List ℕ) : Type 0 where
  pub entry : Entry
  pub numbers : List ℕ
  pub same : entry.number ≡ number
  pub line : IsLineOf text entry numbers

-- it is the last line of a report, with that number of entries
abbrev pub IsEndText : ℕ → List ℕ → Type 0
IsEndText n text = (n < 2 ^ 64) × (text ++ 10 ∷ [] ≡ end_text n)

-- a line where it stands: its text, whether it has a newline, how many lines stand before it, and whether one of them
-- is the last line of a report
pub record Placed : Type 0 where
  pub text : List ℕ
  pub closed : Bool
  pub before : ℕ
  pub ended : Bool

-- its cause: a line behind the last one has that of the ending alone
abbrev pub Has : Placed → ReportCause → Type 0
Has l cause.Form = (l.ended ≡ false) × ((l.closed ≡ false)
    ⊎ ((IsEntryText l.before l.text → ⊥) × ((n : ℕ) → IsEndText n l.text → ⊥)))
Has l cause.Ending = (l.ended ≡ true) ⊎ ((l.closed ≡ true) × ((n : ℕ) × IsEndText n l.text × (n ≢ l.before)))

-- lines of entries, numbered from there on, one behind another
abbrev pub AreEntryLines : ℕ → List (List ℕ) → Type 0
AreEntryLines n [] = Unit {0}
AreEntryLines n (text ∷ texts) = IsEntryText n text × AreEntryLines (n + 1) texts

-- lines, each with its newline
abbrev pub closed_lines : List (List ℕ) → List ℕ
closed_lines [] = []
closed_lines (text ∷ texts) = text ++ (10 ∷ closed_lines texts)

-- the bytes before a line: entries' lines, and the last line of their report where it came
abbrev pub front : List (List ℕ) → Bool → List ℕ
front texts false = closed_lines texts
front texts true = closed_lines texts ++ end_text (length texts)

-- how many lines they are
abbrev pub front_count : List (List ℕ) → Bool → ℕ
front_count texts false = length texts
front_count texts true = length texts + 1

-- the line is the first of these bytes: one with a newline, or the bytes that there are where none of them is one
abbrev pub StandsFirst : Placed → List ℕ → Type 0
StandsFirst l bytes = ((rest : List ℕ) × (l.closed ≡ true) × (bytes ≡ l.text ++ (10 ∷ rest)))
    ⊎ ((l.closed ≡ false) × (0 < length l.text) × (bytes ≡ l.text))

-- the fault names the first line of these bytes, behind so many others, and its cause
pub record IsFaultHere (before : ℕ) (ended : Bool) (bytes : List ℕ) (fault : ReportFault) : Type 0 where
  pub here : Placed
  pub count : here.before ≡ before
  pub last : here.ended ≡ ended
  pub whole : All (λ b. b ≢ 10) here.text
  pub stands : StandsFirst here bytes
  pub number : fault.line ≡ before + 1
  pub has : Has here fault.cause

-- the fault names the first line with a cause
pub record IsFaultyLine (bytes : List ℕ) (fault : ReportFault) : Type 0 where
  pub texts : List (List ℕ)
  pub lines : AreEntryLines 0 texts
  pub ended : Bool
  pub behind : List ℕ
  pub cut : bytes ≡ front texts ended ++ behind
  pub found : IsFaultHere (front_count texts ended) ended behind fault

-- all lines are entries' lines, and the fault names the place behind them, where the last line is missing
pub record LacksEnd (bytes : List ℕ) (fault : ReportFault) : Type 0 where
  pub texts : List (List ℕ)
  pub lines : AreEntryLines 0 texts
  pub all : bytes ≡ closed_lines texts
  pub number : fault.line ≡ length texts + 1
  pub cause : fault.cause ≡ cause.Ending

-- the first line with a cause, or the place behind all lines
abbrev pub IsReportFault : List ℕ → ReportFault → Type 0
IsReportFault bytes fault = IsFaultyLine bytes fault ⊎ LacksEnd bytes fault

-- no history has these bytes as its report
abbrev pub IsNoReport : List ℕ → Type 0
IsNoReport bytes = (h : Finished) → IsValue h → bytes ≢ report h
