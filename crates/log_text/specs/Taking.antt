-- What the steps of reading a log promise each other.
use Rattle.std.specs.Prelude.{◌≡◌, ◌≢◌, ℕ, ◌+◌, ◌<◌, ◌≤◌, ◌^◌, Bool, true, false, List, [], ◌∷◌, ◌++◌, length}
use Rattle.log_text.specs.declared.lines.LogLine.{LogLine}
use Rattle.log_text.specs.declared.lines.LogError.{LogError}
use Rattle.log_text.specs.declared.lines.LogError.TheVariants.{OutOfMemory, Refused}
use Rattle.log_text.specs.declared.said.Said.{Said}
use Rattle.log_text.specs.declared.said.Said.TheVariants.{Entry, End}
use Rattle.log_text.specs.Behind.{Behind, Fits, HasCounts, IsLog, MayStand, behind, behind_all, none_live}
use Rattle.log_text.specs.Text.{line_text, end_text}
use Rattle.log_text.specs.Faults.{Has, IsLogFault, IsNoLogText}
use Rattle.log_text.specs.declared.lines.LogCause.TheVariants as cause

-- the text is that of this line, or of this last line
abbrev pub Says : Said → List ℕ → Type 0
Says (Entry l) text = Fits l × (line_text l ≡ text)
Says (End n) text = (n < 2 ^ 64) × (end_text n ≡ text)

-- a log grew by the line with that text
pub record GrowsBy (old new : List LogLine) (text : List ℕ) : Type 0 where
  pub line : LogLine
  pub fits : Fits line
  pub same : line_text line ≡ text
  pub grown : new ≡ old ++ line ∷ []

-- a log ends with a last line of that text
pub record EndsBy (old new : List LogLine) (text : List ℕ) : Type 0 where
  pub same : end_text (length old) ≡ text
  pub kept : new ≡ old

-- a closed line was taken: either the log grew by it, or it ends it
abbrev pub Takes : Bool → List LogLine → List LogLine → List ℕ → Type 0
Takes true old new text = GrowsBy old new text
Takes false old new text = EndsBy old new text

-- why a log doesn't go on with a line: no memory, or the line's cause
abbrev pub Stops : List LogLine → List ℕ → Bool → LogError → Type 0
Stops old text closed OutOfMemory = Unit {0}
Stops old text closed (Refused line why) = (line ≡ length old + 1)
    × Has (behind_all none_live old) (length old) text closed why

-- the live handles that are kept are those behind the lines, and each count is at most as great as the number of lines
pub record IsGrowing (ls : List LogLine) (live : Behind) : Type 0 where
  pub lawful : IsLog ls
  pub behind : live ≡ behind_all none_live ls
  pub strong : live.grefc ≤ length ls
  pub weak : live.gwrefc ≤ length ls

-- why a log doesn't go on with a line that was read: no memory, or its mark, or else its counts
abbrev pub StopsAt : List LogLine → LogLine → LogError → Type 0
StopsAt old l OutOfMemory = Unit {0}
StopsAt old l (Refused line cause.Mark) = (line ≡ length old + 1)
    × (MayStand (behind_all none_live old) l.mark l.h.0 l.p.0 → ⊥)
StopsAt old l (Refused line cause.Count) = (line ≡ length old + 1)
    × MayStand (behind_all none_live old) l.mark l.h.0 l.p.0 × (HasCounts (behind (behind_all none_live old) l) l → ⊥)
StopsAt old l (Refused line why) = ⊥

-- why a log isn't at its end behind its last line: another line stands there
abbrev pub Finishes : List LogLine → List ℕ → LogError → Type 0
Finishes ls left OutOfMemory = ⊥
Finishes ls left (Refused line cause.End) = (line ≡ length ls + 2) × (left ≢ [])
Finishes ls left (Refused line why) = ⊥

-- why bytes give no log: no memory, or they are the text of none
abbrev pub IsLogRefusal : List ℕ → LogError → Type 0
IsLogRefusal bytes OutOfMemory = Unit {0}
IsLogRefusal bytes (Refused line why) = IsLogFault bytes line why × IsNoLogText bytes
