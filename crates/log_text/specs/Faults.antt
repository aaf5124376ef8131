-- Which line of bytes is the first that is wrong, and why.
-- Believed: the clauses of the program's top call rest on all that stands here.
use Rattle.std.specs.Prelude.{◌≡◌, ◌≢◌, ℕ, ◌+◌, ◌<◌, ◌^◌, ◌⊎◌, Bool, true, false, List, [], ◌++◌, ◌∷◌, length}
use Rattle.text_words.specs.Placed.{IsFirstLine}
use Rattle.log_text.specs.declared.lines.LogCause.{LogCause}
use Rattle.log_text.specs.declared.lines.LogCause.TheVariants as cause
use Rattle.log_text.specs.declared.lines.LogLine.{LogLine}
use Rattle.log_text.specs.Behind.{Behind, behind, behind_all, none_live, Fits, HasCounts, IsLog, MayStand}
use Rattle.log_text.specs.Text.{IsLogText, end_text, line_text, lines_text}

-- the text is that of no line of a log and of no last line
pub record IsNeither (text : List ℕ) : Type 0 where
  pub line : (l : LogLine) → Fits l → line_text l ≢ text
  pub last : (n : ℕ) → n < 2 ^ 64 → end_text n ≢ text

-- the text is that of a line which may not stand there: a plus line of a handle that is live, or a minus line of one
-- that isn't, or is on another peer
pub record IsMarkedWrongly (v : Behind) (text : List ℕ) : Type 0 where
  pub line : LogLine
  pub fits : Fits line
  pub same : line_text line ≡ text
  pub wrong : MayStand v line.mark line.h.0 line.p.0 → ⊥

-- the text is that of a line which may stand there, but its counts aren't those behind it
pub record IsCountedWrongly (v : Behind) (text : List ℕ) : Type 0 where
  pub line : LogLine
  pub fits : Fits line
  pub same : line_text line ≡ text
  pub stands : MayStand v line.mark line.h.0 line.p.0
  pub wrong : HasCounts (behind v line) line → ⊥

-- the text is that of a last line with another number
pub record EndsWrongly (count : ℕ) (text : List ℕ) : Type 0 where
  pub number : ℕ
  pub fits : number < 2 ^ 64
  pub same : end_text number ≡ text
  pub other : number ≢ count

-- what is wrong with a line that stands behind so many lines of a log: at most one of the causes
abbrev pub Has : Behind → ℕ → List ℕ → Bool → LogCause → Type 0
Has v count text closed cause.Text = (closed ≡ false) ⊎ IsNeither text
Has v count text closed cause.Mark = (closed ≡ true) × IsMarkedWrongly v text
Has v count text closed cause.Count = (closed ≡ true) × IsCountedWrongly v text
Has v count text closed cause.End = (closed ≡ true) × EndsWrongly count text

-- lines of a log, and behind them the first line that is wrong
pub record IsWrongLine (bytes : List ℕ) (number : ℕ) (why : LogCause) : Type 0 where
  pub before : List LogLine
  pub rest : List ℕ
  pub text : List ℕ
  pub closed : Bool
  pub left : List ℕ
  pub whole : bytes ≡ lines_text before ++ rest
  pub first : IsFirstLine rest text closed left
  pub lawful : IsLog before
  pub number_is : number ≡ length before + 1
  pub has : Has (behind_all none_live before) (length before) text closed why

-- the whole text of a log, and behind it another line
pub record GoesOn (bytes : List ℕ) (number : ℕ) : Type 0 where
  pub before : List LogLine
  pub left : List ℕ
  pub whole : bytes ≡ lines_text before ++ (end_text (length before) ++ (10 ∷ left))
  pub more : left ≢ []
  pub lawful : IsLog before
  pub number_is : number ≡ length before + 2

-- lines of a log, and no last line
pub record LacksEnd (bytes : List ℕ) (number : ℕ) : Type 0 where
  pub before : List LogLine
  pub whole : bytes ≡ lines_text before
  pub lawful : IsLog before
  pub number_is : number ≡ length before + 1

-- the line with that number, counted from 1, is the first that is wrong, or it is the place behind the last line, and
-- this is why
abbrev pub IsLogFault : List ℕ → ℕ → LogCause → Type 0
IsLogFault bytes number cause.End = IsWrongLine bytes number cause.End ⊎ GoesOn bytes number ⊎ LacksEnd bytes number
IsLogFault bytes number why = IsWrongLine bytes number why

-- the bytes are the text of no log
abbrev pub IsNoLogText : List ℕ → Type 0
IsNoLogText bytes = (ls : List LogLine) → IsLogText bytes ls → ⊥
