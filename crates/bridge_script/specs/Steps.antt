-- What the steps of reading a script promise each other: the words of a line, the line that comes next, and
-- where a line ends. Nothing outside of this crate rests on them.
use Rattle.std.specs.Prelude.{take, drop, ◌≡◌, ◌≢◌, ℕ, ◌+◌, ◌<◌, ◌≤◌, List, [], ◌∷◌, ◌++◌, length, Result}
use Rattle.std.specs.Prelude.{MatchResult, All}
use Rattle.joint_machine.specs.declared.names.Thread.{Thread}
use Rattle.joint_machine.specs.declared.lines.Act.{Act}
use Rattle.bridge_script.specs.declared.faults.Cause.{Cause}
use Rattle.bridge_script.specs.declared.faults.ScriptError.{ScriptError}
use Rattle.bridge_script.specs.declared.faults.ScriptFault.{ScriptFault}
use Rattle.bridge_script.specs.declared.faults.ScriptError.TheVariants.{OutOfMemory, ReadFault, Refused}
use Rattle.text_words.specs.Words.{words_of}
use Rattle.bridge_script.specs.Words.{line_text}
use Rattle.bridge_script.specs.Faults.{WordsHave, PlacedLine, IsFirst, Has}
use Rattle.bridge_script.specs.Scripts.{IsScriptLine, IsScript, cycles_of, script_text_of}

-- what a reader of a line's text answers: the line that has the text, or its words' first cause
abbrev pub ReadsLine : List ℕ → Result (Thread × Act) Cause → Type 0
ReadsLine text result = MatchResult result (λ line. IsScriptLine line × (line_text line ≡ text))
    (λ c. IsFirst (WordsHave (words_of text)) c)

-- a list of lines grew by one line, which has that text and ends at a byte within the limit
pub record GainsLine (old new : List (Thread × Act)) (text : List ℕ) (end : ℕ) : Type 0 where
  pub line : Thread × Act
  pub grown : new ≡ old ++ line ∷ []
  pub lawful : IsScript new
  pub read : line_text line ≡ text
  pub size : end ≤ 8388608

-- a line with that text that ends there, behind the lines of a script
abbrev pub behind : List (Thread × Act) → List ℕ → ℕ → PlacedLine
behind old text end = record { words = words_of text; number = length old + 1; cycles = cycles_of old; end = end }

-- why a script doesn't go on with a line that has that text and ends there: no memory, or its first cause
abbrev pub Stops : List (Thread × Act) → List ℕ → ℕ → ScriptError → Type 0
Stops old text end OutOfMemory = Unit {0}
Stops old text end ReadFault = ⊥
Stops old text end (Refused fault) = (fault.line ≡ length old + 1) × IsFirst (Has (behind old text end)) fault.cause

-- a text up to its first newline, which stands at place `n`
pub record CutsLine (bytes : List ℕ) (n : ℕ) : Type 0 where
  pub within : n < length bytes
  pub free : All (λ b. b ≢ 10) (take n bytes)
  pub whole : bytes ≡ take n bytes ++ 10 ∷ drop (n + 1) bytes

-- what was taken of a text: the script that its whole lines are, and the bytes behind them
pub record Taken : Type 0 where
  pub script : List (Thread × Act)
  pub held : List ℕ

abbrev pub taken : Taken → List ℕ
taken d = script_text_of d.script ++ d.held

-- the fault names a line that ends within a text, and is the first that no script goes on with
pub record StopsIn (text : List ℕ) (fault : ScriptFault) : Type 0 where
  pub before : List (Thread × Act)
  pub line : List ℕ
  pub rest : List ℕ
  pub stands : text ≡ script_text_of before ++ (line ++ 10 ∷ rest)
  pub whole : All (λ b. b ≢ 10) line
  pub lawful : IsScript before
  pub size : length (script_text_of before) ≤ 8388608
  pub stops : Stops before line (length (script_text_of before) + length line + 1) (Refused fault)

-- why no more of a text is read, whatever stands behind it: no memory, or such a line
abbrev pub StopsWithin : List ℕ → ScriptError → Type 0
StopsWithin text OutOfMemory = Unit {0}
StopsWithin text ReadFault = ⊥
StopsWithin text (Refused fault) = StopsIn text fault
