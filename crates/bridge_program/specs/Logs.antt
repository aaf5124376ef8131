-- What the commands on reference logs promise: the log of a script's run, and what a log never releases, or why it is
-- refused.
-- Believed: the clauses of the program's top call rest on all that stands here.
use Rattle.std.specs.Prelude.{◌≡◌, ◌⊎◌, ℕ, ◌+◌, ◌≤◌, List, Option, length}
use Rattle.std.specs.Io.KnownBytes.{Consumes, IsAtEnd}
use Rattle.joint_machine.specs.declared.names.HNum.{HNum}
use Rattle.joint_machine.specs.declared.names.Thread.{Thread}
use Rattle.joint_machine.specs.declared.lines.Act.{Act}
use Rattle.joint_machine.specs.Histories.{Finished}
use Rattle.joint_machine.specs.LinkedHistories.{IsLinkedBy}
use Rattle.joint_machine.specs.Told.{Noted}
use Rattle.bridge_script.specs.declared.faults.Cause.TheVariants as cause
use Rattle.bridge_script.specs.Causes.{fault_text}
use Rattle.bridge_script.specs.Reading.{TookScript}
use Rattle.byte_streams.specs.Reading.{Took}
use Rattle.run_laws.specs.Final.{IsRunInOrder}
use Rattle.log_text.specs.declared.lines.LogCause.{LogCause}
use Rattle.log_text.specs.declared.lines.LogLine.{LogLine}
use Rattle.log_text.specs.Answers.{refusal_text, unreleased_text}
use Rattle.log_text.specs.Behind.{IsLog, behind_all, none_live}
use Rattle.log_text.specs.Faults.{IsLogFault, IsNoLogText}
use Rattle.log_text.specs.Keys.{AreKeys}
use Rattle.log_text.specs.Text.{IsLogText, log_text}
use Rattle.gref_log.specs.After.{peers_after}
use Rattle.gref_log.specs.Limit.{IsFaultBefore, IsLongLine}
use Rattle.gref_log.specs.Log.{IsLogOf, behind_peers}

-- the most bytes of a log
abbrev pub MOST_BYTES : ℕ
MOST_BYTES = 268435456

-- the lines are the log of the history; what is live behind them is what the handle table says
pub record IsLogOfRun (h : Finished) (lines : List LogLine) : Type 0 where
  pub log : IsLog lines
  pub log_of_history : IsLogOf h lines
  pub table : (noted : List Noted) → IsLinkedBy h noted → behind_all none_live lines ≡ behind_peers (peers_after noted)

-- `Put` says what was done with the text that is due: all of it was appended to what the sink held, or a beginning

-- a log: the source was read to its end, what was taken is a text of the script, and the text is the log of the history
-- of its run in order
pub record LoggedPut (left rest : Option (List ℕ)) (Put : List ℕ → Type 0) : Type 0 where
  pub script : List (Thread × Act)
  pub history : Finished
  pub took : TookScript left rest script
  pub run : IsRunInOrder script history
  pub lines : List LogLine
  pub logged : IsLogOfRun history lines
  pub text : Put (log_text lines)

-- exactly the handles that are live at the end of a log, in each strength
pub record LeftOf (lines : List LogLine) : Type 0 where
  pub strong : List HNum
  pub weak : List HNum
  pub strong_ones : AreKeys (behind_all none_live lines).strong strong
  pub weak_ones : AreKeys (behind_all none_live lines).weak weak

abbrev pub left_text : {lines : List LogLine} → LeftOf lines → List ℕ
left_text left = unreleased_text left.strong left.weak

-- the bytes are the text of a log, and what it never releases was put
pub record UnreleasedPut (bytes : List ℕ) (Put : List ℕ → Type 0) : Type 0 where
  pub lines : List LogLine
  pub reads : IsLogText bytes lines
  pub left_over : LeftOf lines
  pub text : Put (left_text left_over)

-- so it was of a source that was read to its end, within the limit
pub record LeftPut (left rest : Option (List ℕ)) (Put : List ℕ → Type 0) : Type 0 where
  pub input : List ℕ
  pub taken : Consumes left rest input
  pub ended : IsAtEnd rest
  pub short : length input ≤ MOST_BYTES
  pub put : UnreleasedPut input Put

-- a line is wrong: of bytes within the limit the first one, or the place behind all lines, and the bytes are the text
-- of no log; of more bytes one before the limit
abbrev pub IsLineWrong : List ℕ → ℕ → LogCause → Type 0
IsLineWrong bytes number why = ((length bytes ≤ MOST_BYTES) × IsLogFault bytes number why × IsNoLogText bytes)
    ⊎ ((length bytes ≡ MOST_BYTES + 1) × IsFaultBefore MOST_BYTES bytes number why)

-- the text is the line that names the first line that is wrong, with its cause
pub record NamesWrongLine (bytes text : List ℕ) : Type 0 where
  pub number : ℕ
  pub why : LogCause
  pub wrong : IsLineWrong bytes number why
  pub is : text ≡ refusal_text number why

-- or the line that holds the first byte behind the limit
pub record NamesLongLine (bytes text : List ℕ) : Type 0 where
  pub number : ℕ
  pub long : length bytes ≡ MOST_BYTES + 1
  pub line : IsLongLine MOST_BYTES bytes number
  pub is : text ≡ fault_text record { line = number; cause = cause.Bytes }

abbrev pub IsRefusal : List ℕ → List ℕ → Type 0
IsRefusal bytes text = NamesWrongLine bytes text ⊎ NamesLongLine bytes text

-- the source was read to its end or up to one byte past the limit, and a refusal of what was taken was put
pub record LogFaultPut (left rest : Option (List ℕ)) (Put : List ℕ → Type 0) : Type 0 where
  pub input : List ℕ
  pub took : Took MOST_BYTES left rest input
  pub answer : List ℕ
  pub refusal : IsRefusal input answer
  pub text : Put answer
