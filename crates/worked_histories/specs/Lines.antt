-- A history as the lines of its script came: each line with its events, whose numbers follow one another.
use Rattle.std.specs.Prelude.{ℕ, ◌+◌, List, [], ◌∷◌, ◌++◌, length, Option, Some, None}
use Rattle.joint_machine.specs.declared.names.Thread.{Thread}
use Rattle.joint_machine.specs.declared.events.Op.{Op}
use Rattle.joint_machine.specs.declared.events.Reply.{Reply}
use Rattle.joint_machine.specs.Told.{Told, nothing, Noted}
use Rattle.worked_histories.specs.Notes.{note}

-- an event with its reply, what it cites, and what is told beside it
pub record Move : Type 0 where
  pub op : Op
  pub reply : Reply
  pub cites : Option ℕ
  pub told : Told

-- one that cites nothing and is told nothing; one that is told something; one that cites an entry; and one that does
-- both
abbrev pub move : Op → Reply → Move
move o reply = record { op = o; reply = reply; cites = None; told = nothing }

abbrev pub telling : Op → Reply → Told → Move
telling o reply told = record { op = o; reply = reply; cites = None; told = told }

abbrev pub citing : Op → Reply → ℕ → Move
citing o reply n = record { op = o; reply = reply; cites = Some n; told = nothing }

abbrev pub citing_telling : Op → Reply → ℕ → Told → Move
citing_telling o reply n told = record { op = o; reply = reply; cites = Some n; told = told }

-- a line: its caller and its events
pub record Came : Type 0 where
  pub caller : Thread
  pub moves : List Move

abbrev pub came : Thread → List Move → Came
came t moves = record { caller = t; moves = moves }

-- the notes of events of one line, with numbers from n on
abbrev pub notes_of_moves : ℕ → Thread → ℕ → List Move → List Noted
notes_of_moves n t line [] = []
notes_of_moves n t line (m ∷ ms) = note n t line m.op m.reply m.cites m.told ∷ notes_of_moves (n + 1) t line ms

-- the notes of lines, with entries from number n and lines from that number on
abbrev pub notes_from : ℕ → ℕ → List Came → List Noted
notes_from n line [] = []
notes_from n line (l ∷ ls) = notes_of_moves n l.caller line l.moves ++ notes_from (n + length l.moves) (line + 1) ls

-- the notes of a script's lines
abbrev pub notes_of : List Came → List Noted
notes_of lines = notes_from 0 1 lines
