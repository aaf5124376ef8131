-- Short words for writing a history down.
use Rattle.std.specs.Prelude.{ℕ, List, map, Option}
use Rattle.joint_machine.specs.declared.names.Var.{Var}
use Rattle.joint_machine.specs.declared.names.MNum.{MNum}
use Rattle.joint_machine.specs.declared.names.PNum.{PNum}
use Rattle.joint_machine.specs.declared.names.HNum.{HNum}
use Rattle.joint_machine.specs.declared.names.Cycle.{Cycle}
use Rattle.joint_machine.specs.declared.names.Marking.{Marking}
use Rattle.joint_machine.specs.declared.names.StaticNo.{StaticNo}
use Rattle.joint_machine.specs.declared.names.Cell.{Cell}
use Rattle.joint_machine.specs.declared.names.GName.{GName}
use Rattle.joint_machine.specs.declared.names.Span.{Span}
use Rattle.joint_machine.specs.declared.names.Thread.{Thread}
use Rattle.joint_machine.specs.declared.events.Op.{Op}
use Rattle.joint_machine.specs.declared.events.Reply.{Reply}
use Rattle.joint_machine.specs.Components.{between_nodes}
use Rattle.joint_machine.specs.Told.{Told, references_of, Noted}

-- the entry with that number, by that caller on that line, with its event, its reply, what it cites and what is told
abbrev pub note : ℕ → Thread → ℕ → Op → Reply → Option ℕ → Told → Noted
note number caller line o reply cites
    told = record {
      entry = record {
        number = number;
        made = record { caller = caller; index = line; op = o; reply = reply; cites = cites };
      };
      told = told;
    }

-- a mirror is told references between peers alone
abbrev pub linking : List (ℕ × ℕ) → Told
linking pairs = references_of (map between_nodes pairs)

-- a variable, a static, a global name and a cell by their places
abbrev pub var : ℕ → Var
var v = record { 0 = v }

abbrev pub static_no : ℕ → StaticNo
static_no x = record { 0 = x }

abbrev pub name_no : ℕ → GName
name_no g = record { 0 = g }

abbrev pub cell_no : ℕ → Cell
cell_no k = record { 0 = k }

-- an object, a peer, a handle, a cycle and a marking by their numbers
abbrev pub object_no : ℕ → MNum
object_no m = record { 0 = m }

abbrev pub peer_no : ℕ → PNum
peer_no p = record { 0 = p }

abbrev pub handle_no : ℕ → HNum
handle_no h = record { 0 = h }

abbrev pub cycle_no : ℕ → Cycle
cycle_no k = record { 0 = k }

abbrev pub marking_no : ℕ → Marking
marking_no j = record { 0 = j }

-- a stretch of a list
abbrev pub span : ℕ → ℕ → Span
span first count = record { first = first; count = count }
