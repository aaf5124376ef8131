-- What stands behind the log of a history is its handle table, and such a log is one that is read back.
use Rattle.std.specs.Prelude.{◌≡◌, ℕ, List, ◌++◌, All, Contains, ◌↔◌, IsSome, map, take}
use Rattle.joint_machine.specs.declared.names.HNum.{HNum}
use Rattle.joint_machine.specs.Histories.{Finished}
use Rattle.joint_machine.specs.LinkedHistories.{IsLinkedBy}
use Rattle.joint_machine.specs.Peers.{strong, weak}
use Rattle.joint_machine.specs.Told.{Noted}
use Rattle.joint_laws.specs.LinkedInvariants.{HasStrength}
use Rattle.joint_laws.specs.ReadingLaws.{IsLawfulReading}
use Rattle.log_text.specs.declared.lines.LogLine.{LogLine}
use Rattle.log_text.specs.Behind.{Fits, IsLog, behind_all, none_live}
use Rattle.log_text.specs.Keys.{AreKeys}
use Rattle.log_text.specs.Text.{log_text}
use Rattle.gref_log.specs.Log.{IsLogOf, behind_peers, log_of_notes}
use Rattle.gref_log.specs.After.{peers_after}

-- behind the lines of all entries of a lawful list, what is live is what the table says; so it is behind the last line
-- of each entry of a linked history, since the entries up to there are a lawful list
abbrev pub CountsAreTheTables : Type 0
CountsAreTheTables = (noted : List Noted) → IsLawfulReading noted
    → behind_all none_live (log_of_notes noted) ≡ behind_peers (peers_after noted)

-- a handle is live in a strength exactly where the table has it in that strength
abbrev pub LiveAreTheRows : Type 0
LiveAreTheRows = (noted : List Noted) → IsLawfulReading noted → (h : ℕ)
    → (IsSome ((behind_all none_live (log_of_notes noted)).strong h) ↔ HasStrength (peers_after noted) h strong)
    × (IsSome ((behind_all none_live (log_of_notes noted)).weak h) ↔ HasStrength (peers_after noted) h weak)

-- each line of a lawful list's log may stand behind those before it, so where its numbers fit their types it is a log
abbrev pub LogsAreLogs : Type 0
LogsAreLogs = (noted : List Noted) → IsLawfulReading noted → All Fits (log_of_notes noted) → IsLog (log_of_notes noted)

-- the lines of the first entries are the first lines of the log, and behind them what is live is what the table says
-- after these entries
pub record StandsBehindEntries (noted : List Noted) (count : ℕ) : Type 0 where
  pub rest : List LogLine
  pub lines : log_of_notes noted ≡ log_of_notes (take count noted) ++ rest
  pub table : behind_all none_live (log_of_notes (take count noted)) ≡ behind_peers (peers_after (take count noted))

-- so it is of a linked history, after each of its entries
abbrev pub EntriesLeaveTheTable : Type 0
EntriesLeaveTheTable = (h : Finished) (noted : List Noted)
    → IsLinkedBy h noted → (count : ℕ) → StandsBehindEntries noted count

-- what a linked history's log never releases is exactly the rows of the table at its end, in each strength
abbrev pub LeftAreTheRows : Type 0
LeftAreTheRows = (h : Finished) (noted : List Noted) (lines : List LogLine) → IsLinkedBy h noted → IsLogOf h lines
    → (hs ws : List HNum) → AreKeys (behind_all none_live lines).strong hs
    → AreKeys (behind_all none_live lines).weak ws → (n : ℕ)
    → (Contains (map (λ h. h.0) hs) n ↔ HasStrength (peers_after noted) n strong)
    × (Contains (map (λ h. h.0) ws) n ↔ HasStrength (peers_after noted) n weak)

-- the lines are the log of a linked history: such a log is read back, and what is live behind it is what the handle
-- table says
pub record IsWholeLog (h : Finished) (ls : List LogLine) : Type 0 where
  pub log : IsLog ls
  pub log_of_history : IsLogOf h ls
  pub table : (noted : List Noted) → IsLinkedBy h noted → behind_all none_live ls ≡ behind_peers (peers_after noted)

-- `Put` says what was done with the text of that log
pub record LogPut (h : Finished) (Put : List ℕ → Type 0) : Type 0 where
  pub lines : List LogLine
  pub whole : IsWholeLog h lines
  pub text : Put (log_text lines)
