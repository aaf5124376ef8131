-- What is answered of a log: what was never released, or why it is refused.
-- Believed: the clauses of the program's top call rest on all that stands here.
use Rattle.std.specs.Prelude.{ℕ, List, [], ◌∷◌, ◌++◌, codes, decimal}
use Rattle.joint_machine.specs.declared.names.HNum.{HNum}
use Rattle.log_text.specs.declared.lines.LogCause.{LogCause}
use Rattle.log_text.specs.declared.lines.LogCause.TheVariants as cause

-- the number of a cause, as it is printed
abbrev pub cause_number : LogCause → ℕ
cause_number cause.Text = 10
cause_number cause.Mark = 11
cause_number cause.Count = 12
cause_number cause.End = 13

-- the name of a cause, as it is printed
abbrev pub cause_name : LogCause → List ℕ
cause_name cause.Text = codes "text"
cause_name cause.Mark = codes "mark"
cause_name cause.Count = codes "count"
cause_name cause.End = codes "end"

-- the line that names a fault: `line N: cause C NAME`, with its newline
abbrev pub refusal_text : ℕ → LogCause → List ℕ
refusal_text line why = codes "line " ++ decimal line ++ codes ": cause " ++ decimal
    (cause_number why) ++ codes " " ++ cause_name why ++ codes "\n"

-- texts one after another
abbrev pub pieces : {X : Type 0} → (X → List ℕ) → List X → List ℕ
pieces piece [] = []
pieces piece (x ∷ xs) = piece x ++ pieces piece xs

-- a handle with a space before it
abbrev pub handle_text : HNum → List ℕ
handle_text h = 32 ∷ 104 ∷ decimal h.0

-- a list of handles, each with a space before it, or - where there is none
abbrev pub list_text : List HNum → List ℕ
list_text [] = codes " -"
list_text (h ∷ hs) = pieces handle_text (h ∷ hs)

-- what was never released: `strong LIST` and `weak LIST`, each with its newline
abbrev pub unreleased_text : List HNum → List HNum → List ℕ
unreleased_text strong weak = (codes "strong" ++ list_text strong) ++ ((codes "\nweak" ++ list_text weak) ++ codes "\n")
