-- What the parts of reading a report promise each other, and whoever reads one piece by piece.
use Rattle.std.specs.Prelude.{◌≡◌, ℕ, ◌+◌, ◌⊎◌, false, true, List, [], ◌∷◌, ◌++◌, length, slice_index}
use Rattle.joint_machine.specs.declared.events.Entry.{Entry}
use Rattle.joint_machine.specs.Histories.{Finished}
use Rattle.history_report.specs.Report.{end_text}
use Rattle.entry_reader.specs.Meaning.{Lists}
use Rattle.entry_reader.specs.Tailing.{ReadsEntry}
use Rattle.report_reader.specs.declared.faults.ReportCause.TheVariants as cause
use Rattle.report_reader.specs.declared.faults.ReportFault.{ReportFault}
use Rattle.report_reader.specs.declared.faults.ReportError.{ReportError}
use Rattle.report_reader.specs.declared.faults.ReportError.TheVariants as error
use Rattle.report_reader.specs.Faults.{IsFaultHere}

-- entries and lists, as far as lines were read
pub record Read : Type 0 where
  pub entries : List Entry
  pub lists : Lists

-- no list has a number yet
abbrev pub no_lists : Lists
no_lists = record { managed = []; peers = []; notices = [] }

-- the history of what was read
abbrev pub history_of : Read → Finished
history_of r = record {
  entries = r.entries;
  freed_managed = r.lists.managed;
  freed_peers = r.lists.peers;
  notices = r.lists.notices;
}

-- the entries were read from the lines of a text, each numbered by the lines before it, and their lists put behind
-- those before
abbrev pub ReadsLines : ℕ → Lists → List Entry → List ℕ → Lists → Type 0
ReadsLines n before [] text after = (text ≡ []) × (after ≡ before)
ReadsLines n before (e ∷ es) text after = (line : List ℕ) × (rest : List ℕ) × (mid : Lists)
    × (text ≡ line ++ (10 ∷ rest)) × ReadsEntry line n before mid e × ReadsLines (n + 1) mid es rest after

-- one more line was read as the next entry, and these bytes are left
pub record ReadsLine (old new : Read) (bytes left : List ℕ) : Type 0 where
  pub text : List ℕ
  pub entry : Entry
  pub cut : bytes ≡ text ++ (10 ∷ left)
  pub reads : ReadsEntry text (length old.entries) old.lists new.lists entry
  pub entries : new.entries ≡ old.entries ++ entry ∷ []

-- the text is the lines of what was read
abbrev pub AreRead : List ℕ → Read → Type 0
AreRead text r = ReadsLines 0 no_lists r.entries text r.lists

-- lines of the bytes were read behind those that were read before, and these are left
pub record GoesFrom (front : List ℕ) (new : Read) (bytes left : List ℕ) : Type 0 where
  pub text : List ℕ
  pub cut : bytes ≡ text ++ left
  pub lines : AreRead (front ++ text) new

-- so it is behind whatever lines were read before
abbrev pub GoesTo : Read → Read → List ℕ → List ℕ → Type 0
GoesTo old new bytes left = (front : List ℕ) → AreRead front old → GoesFrom front new bytes left

-- the first line is faulty, since no entry has it and it doesn't begin as a last line does
abbrev pub IsMisformed : ℕ → List ℕ → Type 0
IsMisformed before bytes = IsFaultHere before false bytes (record { line = before + 1; cause = cause.Form })

-- no entry was read of the first line
pub record StaysAt (old new : Read) (bytes : List ℕ) : Type 0 where
  pub stays : new ≡ old
  pub found : IsMisformed (length old.entries) bytes

-- why no further line was read behind so many: none is left, or it begins as a last line does, or it is faulty
abbrev pub StopsAt : ℕ → List ℕ → Type 0
StopsAt before left = (left ≡ []) ⊎ ((slice_index left 0 ≡ 101) ⊎ IsMisformed before left)

-- bytes stand behind so many lines, the last of which is the last of a report
abbrev pub IsMoreError : ℕ → List ℕ → ReportError → Type 0
IsMoreError before bytes error.OutOfMemory = ⊥
IsMoreError before bytes (error.Refused fault) = IsFaultHere before true bytes fault

-- nothing stands behind so many entries' lines, or something behind the last line of their report
pub record LeavesNone (before : ℕ) (bytes : List ℕ) (fault : ReportFault) : Type 0 where
  pub none : bytes ≡ []
  pub number : fault.line ≡ before + 1
  pub cause : fault.cause ≡ cause.Ending

pub record LeavesMore (before : ℕ) (bytes : List ℕ) (fault : ReportFault) : Type 0 where
  pub more : List ℕ
  pub cut : bytes ≡ end_text before ++ more
  pub found : IsFaultHere (before + 1) true more fault

-- why the bytes behind so many entries' lines aren't the last line
abbrev pub IsEndError : ℕ → List ℕ → ReportError → Type 0
IsEndError before bytes error.OutOfMemory = ⊥
IsEndError before bytes (error.Refused fault) = LeavesNone before bytes fault
    ⊎ (IsFaultHere before false bytes fault ⊎ LeavesMore before bytes fault)
