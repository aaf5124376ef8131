-- How lines come to be held, one after another: as a runner makes their entries.
use Rattle.std.specs.Prelude.{◌≡◌, ℕ, ◌+◌, ◌↔◌, List, [], ◌∷◌, ◌++◌, length, map, Contains}
use Rattle.joint_machine.specs.declared.names.Thread.{Thread}
use Rattle.joint_machine.specs.declared.names.Phase.TheVariants as at
use Rattle.joint_machine.specs.declared.lines.Act.{Act}
use Rattle.joint_machine.specs.declared.events.Entry.{Entry}
use Rattle.joint_machine.specs.Components.{Rises}
use Rattle.joint_machine.specs.Histories.{Finished}
use Rattle.joint_machine.specs.Lines.{IsLine, IsThread}
use Rattle.joint_machine.specs.LinkedHistories.{IsLinkedBy}
use Rattle.joint_machine.specs.Told.{Noted}
use Rattle.script_laws.specs.Holding.{Standing, opening_standing, standing_after, AreLine, AreLeft, HoldsLines}
use Rattle.script_laws.specs.Holding.{HoldsPerThread, numbered_from, lines_of, entries_by}
use Rattle.script_laws.specs.SoFar.{HoldsSoFar}

-- a further line with its own entries behind all others
abbrev pub HeldLinesGrow : Type 0
HeldLinesGrow = (s t : Standing) (lines : List (ℕ × (Thread × Act))) (entries : List Entry)
    → HoldsSoFar s lines entries t → (line : ℕ × (Thread × Act)) (own : List Entry) → AreLine t line.0 line.1 own
    → HoldsSoFar s (lines ++ line ∷ []) (entries ++ own) (standing_after t line.0 line.1.1 own)

-- and at the end the phases left open, of which there are none where the driver is idle
abbrev pub HeldLinesEnd : Type 0
HeldLinesEnd = (s t : Standing) (lines : List (ℕ × (Thread × Act))) (entries : List Entry)
    → HoldsSoFar s lines entries t → (left : List Entry) → AreLeft t left → HoldsLines s lines (entries ++ left)

abbrev pub IdleLeavesNothing : Type 0
IdleLeavesNothing = (t : Standing) → t.phase ≡ at.Idle → AreLeft t []

-- the numbers of the lines, and the lines of one thread, go on with the lines
abbrev pub NumbersGoOn : Type 0
NumbersGoOn = (n : ℕ) (script : List (Thread × Act)) (line : Thread × Act)
    → numbered_from n (script ++ line ∷ []) ≡ numbered_from n script ++ (n + length script, line) ∷ []

abbrev pub LinesOfGoOn : Type 0
LinesOfGoOn = (t : Thread) (xs ys : List (ℕ × (Thread × Act))) → lines_of t (xs ++ ys) ≡ lines_of t xs ++ lines_of t ys

-- two lists of the same entries with rising numbers are one: so entries that were listed as they were made are the
-- history
abbrev pub numbers_of : List Entry → List ℕ
numbers_of es = map (λ e. e.number) es

abbrev pub RisingEntriesAreOne : Type 0
RisingEntriesAreOne = (xs ys : List Entry) → Rises (numbers_of xs)
    → Rises (numbers_of ys) → ((e : Entry) → Contains xs e ↔ Contains ys e) → xs ≡ ys

-- whoever runs each thread that a script can have, with all that it made in a linked history, runs them all
abbrev pub EachThreadIsAll : Type 0
EachThreadIsAll = (script : List (Thread × Act)) (h : Finished) (noted : List Noted)
    → IsLinkedBy h noted → ((line : Thread × Act) → Contains script line → IsLine line.0 line.1)
    → ((t : Thread) → IsThread t → HoldsLines opening_standing (lines_of t (numbered_from 1 script))
    (entries_by t h.entries)) → HoldsPerThread script h.entries
