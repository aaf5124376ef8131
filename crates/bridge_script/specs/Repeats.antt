-- What is kept of the lines that were read.
use Rattle.std.specs.Prelude.{take, ◌≡◌, ◌≤◌, Option, None, Some}
use Rattle.bridge_script.specs.declared.repeats.Kept.{Kept}
use Rattle.bridge_script.specs.Words.{line_text}
use Rattle.bridge_script.specs.Scripts.{IsScriptLine}

-- a line that is kept is one of a script, and has the text that is kept with it
abbrev pub HasItsText : Option Kept → Type 0
HasItsText None = Unit {0}
HasItsText (Some kept) = (kept.len ≤ 40) × (IsScriptLine kept.line × (line_text kept.line ≡ take kept.len kept.text))
