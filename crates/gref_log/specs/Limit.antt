-- A text that is longer than a limit: which of its lines holds the first byte behind the limit, where the lines before
-- it are those of a log, and else which line before it is wrong.
-- Believed: the clauses of the program's top call rest on all that stands here.
use Rattle.std.specs.Prelude.{◌≡◌, ℕ, ◌+◌, ◌⊎◌, List, length}
use Rattle.text_limits.specs.Limits.{IsFrontOf}
use Rattle.log_text.specs.declared.lines.LogCause.{LogCause}
use Rattle.log_text.specs.declared.lines.LogCause.TheVariants as cause
use Rattle.log_text.specs.declared.lines.LogLine.{LogLine}
use Rattle.log_text.specs.Behind.{IsLog}
use Rattle.log_text.specs.Faults.{GoesOn, IsWrongLine}
use Rattle.log_text.specs.Text.{lines_text, log_text}

-- the lines before it are those of a log, perhaps with its last line, and it has that number
pub record IsLongLine (most : ℕ) (bytes : List ℕ) (number : ℕ) : Type 0 where
  pub front : List ℕ
  pub cut : IsFrontOf most bytes front
  pub before : List LogLine
  pub lawful : IsLog before
  pub behind : ((front ≡ lines_text before) × (number ≡ length before + 1))
      ⊎ ((front ≡ log_text before) × (number ≡ length before + 2))

-- the line with that number is the first that is wrong, and this is why
abbrev pub IsFaultOfLine : List ℕ → ℕ → LogCause → Type 0
IsFaultOfLine bytes number cause.End = IsWrongLine bytes number cause.End ⊎ GoesOn bytes number
IsFaultOfLine bytes number why = IsWrongLine bytes number why

-- a line before it is the first that is wrong
pub record IsFaultBefore (most : ℕ) (bytes : List ℕ) (number : ℕ) (why : LogCause) : Type 0 where
  pub front : List ℕ
  pub cut : IsFrontOf most bytes front
  pub fault : IsFaultOfLine front number why
