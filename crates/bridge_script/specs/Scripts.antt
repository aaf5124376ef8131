-- Which bytes are a script, and which of their lines is the first that is none.
-- Believed: the clauses of the program's top call rest on all that stands here.
use Rattle.std.specs.Prelude.{◌≡◌, ◌≢◌, ℕ, ◌+◌, ◌≤◌, ◌<◌, ◌⊎◌, min, Bool, true, false, List, [], ◌∷◌, ◌++◌, length, All}
use Rattle.std.specs.Prelude.{count_by}
use Rattle.joint_machine.specs.declared.names.Thread.{Thread}
use Rattle.joint_machine.specs.declared.names.Thread.TheVariants.{C}
use Rattle.joint_machine.specs.declared.names.PhaseWord.TheVariants as phase
use Rattle.joint_machine.specs.declared.lines.Act.{Act}
use Rattle.joint_machine.specs.declared.lines.Act.TheVariants as act
use Rattle.bridge_script.specs.declared.faults.ScriptFault.{ScriptFault}
use Rattle.joint_machine.specs.Lines.{IsLine}
use Rattle.text_words.specs.Words.{words_of}
use Rattle.bridge_script.specs.Words.{line_text}
use Rattle.bridge_script.specs.Faults.{PlacedLine, IsFirst, Has}

-- the thread has the line's operation, and each of its places is within its limits
abbrev pub IsScriptLine : Thread × Act → Type 0
IsScriptLine line = IsLine line.0 line.1

-- whether a line is `c cycle` or `c snap`
abbrev pub is_cycle : Thread × Act → Bool
is_cycle (C, act.PhaseLine phase.Cycle) = true
is_cycle (C, act.PhaseLine phase.Snap) = true
is_cycle _ = false

-- how many lines are `c cycle` or `c snap`
abbrev pub cycles_of : List (Thread × Act) → ℕ
cycles_of lines = count_by is_cycle lines

-- the lines of a script one after another, each with its newline
abbrev pub script_text_of : List (Thread × Act) → List ℕ
script_text_of [] = []
script_text_of (line ∷ lines) = line_text line ++ (10 ∷ script_text_of lines)

-- the lines are lines of a script: each may be one, they are at most 20,000, and of these at most 256 are `c cycle` or
-- `c snap`
pub record IsScript (script : List (Thread × Act)) : Type 0 where
  pub each : All IsScriptLine script
  pub lines : length script ≤ 20000
  pub cycles : cycles_of script ≤ 256

-- the bytes are the script's text, or that text without its last newline where there is a line; and they
-- are at most 8,388,608
pub record IsText (bytes : List ℕ) (script : List (Thread × Act)) : Type 0 where
  pub lawful : IsScript script
  pub text : (bytes ≡ script_text_of script) ⊎ ((0 < length script) × (bytes ++ 10 ∷ [] ≡ script_text_of script))
  pub size : length bytes ≤ 8388608

-- how many bytes there are up to the end of a line that stands behind the text `before`, its newline counted
-- where it has one
abbrev pub end_of : List ℕ → List ℕ → List ℕ → ℕ
end_of bytes before line = min (length before + length line + 1) (length bytes)

-- a line where it stands: behind the lines `before` it, in these bytes
abbrev pub standing : List ℕ → List (Thread × Act) → List ℕ → PlacedLine
standing bytes before line = record {
  words = words_of line;
  number = length before + 1;
  cycles = cycles_of before;
  end = end_of bytes (script_text_of before) line;
}

-- the fault names the first line that is no line of a script, and its first cause: the lines `before` it are a
-- script's, and it has at least one byte, its newline counted
pub record IsFault (bytes : List ℕ) (fault : ScriptFault) : Type 0 where
  pub before : List (Thread × Act)
  pub line : List ℕ
  pub rest : List ℕ
  pub stands : bytes ++ 10 ∷ [] ≡ script_text_of before ++ (line ++ 10 ∷ rest)
  pub some : length (script_text_of before) < length bytes
  pub whole : All (λ b. b ≢ 10) line
  pub lawful : IsScript before
  pub size : length (script_text_of before) ≤ 8388608
  pub number : fault.line ≡ length before + 1
  pub cause : IsFirst (Has (standing bytes before line)) fault.cause

-- no script has these bytes as its text
abbrev pub IsNoText : List ℕ → Type 0
IsNoText bytes = (script : List (Thread × Act)) → IsText bytes script → ⊥
