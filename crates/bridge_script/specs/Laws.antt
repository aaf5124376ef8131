-- Laws on the texts of scripts.
use Rattle.std.specs.Prelude.{◌≡◌, ℕ, ◌≤◌, ◌⊎◌, List, [], ◌∷◌, ◌++◌, Some}
use Rattle.joint_machine.specs.declared.names.Thread.{Thread}
use Rattle.joint_machine.specs.declared.lines.Act.{Act}
use Rattle.bridge_script.specs.declared.faults.Cause.{Cause}
use Rattle.joint_machine.specs.Lines.{IsLine}
use Rattle.bridge_script.specs.declared.faults.ScriptFault.{ScriptFault}
use Rattle.bridge_script.specs.declared.grammar.Place.{Place}
use Rattle.bridge_script.specs.Words.{act_words, line_text}
use Rattle.bridge_script.specs.Grammar.{operation_text, form_of}
use Rattle.bridge_script.specs.Answers.{operation_of}
use Rattle.bridge_script.specs.Faults.{PlacesHave, Has}
use Rattle.bridge_script.specs.Scripts.{IsScript, IsText, IsFault, IsNoText, script_text_of, standing, end_of}

-- a text is a text of one script
abbrev pub HasOneScript : Type 0
HasOneScript = (bytes : List ℕ) (s t : List (Thread × Act)) → IsText bytes s → IsText bytes t → s ≡ t

-- a script has one text in which each line has its newline, and it is within the limit of bytes
abbrev pub HasFullText : Type 0
HasFullText = (s : List (Thread × Act)) → IsScript s → IsText (script_text_of s) s

-- and at most one more, which is the same without its last newline
abbrev pub HasAtMostOneMore : Type 0
HasAtMostOneMore = (bytes : List ℕ) (s : List (Thread × Act)) → IsText bytes s
    → (bytes ≡ script_text_of s) ⊎ (bytes ++ 10 ∷ [] ≡ script_text_of s)

-- bytes with a faulty line are a text of no script
abbrev pub FaultExcludesScript : Type 0
FaultExcludesScript = (bytes : List ℕ) (fault : ScriptFault) → IsFault bytes fault → IsNoText bytes

-- bytes have one first faulty line, and that line one first cause
abbrev pub HasOneFault : Type 0
HasOneFault = (bytes : List ℕ) (f g : ScriptFault) → IsFault bytes f → IsFault bytes g → f ≡ g

-- a line of a script has no cause where it stands
abbrev pub ScriptHasNoCause : Type 0
ScriptHasNoCause = (bytes : List ℕ) (before : List (Thread × Act)) (next : Thread × Act)
    → IsScript (before ++ next ∷ []) → end_of bytes (script_text_of before) (line_text next) ≤ 8388608
    → (c : Cause) → Has (standing bytes before (line_text next)) c → ⊥

-- a line fits the table of operations: its thread has the operation, and the words behind it have no cause at the
-- operation's places
pub record FitsTable (t : Thread) (a : Act) : Type 0 where
  pub places : List Place
  pub rest : List (List ℕ)
  pub form : form_of t (operation_of a) ≡ Some places
  pub words : act_words t a ≡ operation_text (operation_of a) ∷ rest
  pub none : (c : Cause) → PlacesHave (operation_of a) places rest c → ⊥

-- each line that a script can have fits the table
abbrev pub LinesFitTable : Type 0
LinesFitTable = (t : Thread) (a : Act) → IsLine t a → FitsTable t a
