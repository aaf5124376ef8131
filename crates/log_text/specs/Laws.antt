-- A log's text tells the log, and bytes that are the text of none have one first fault.
use Rattle.std.specs.Prelude.{◌≡◌, ℕ, ◌<◌, ◌^◌, List, length}
use Rattle.log_text.specs.declared.lines.LogCause.{LogCause}
use Rattle.log_text.specs.declared.lines.LogLine.{LogLine}
use Rattle.log_text.specs.Text.{IsLogText}
use Rattle.log_text.specs.Faults.{IsLogFault, IsNoLogText}

-- bytes are the text of at most one log; so what is read from a log's own text is that log
abbrev pub OneLog : Type 0
OneLog = (bytes : List ℕ) (a b : List LogLine) → IsLogText bytes a → IsLogText bytes b → a ≡ b

-- bytes with a fault are the text of none
abbrev pub FaultsAreRefused : Type 0
FaultsAreRefused = (bytes : List ℕ) (line : ℕ) (why : LogCause)
    → length bytes < 2 ^ 64 → IsLogFault bytes line why → IsNoLogText bytes
