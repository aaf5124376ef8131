-- The lines of a history. Line 0 has its managed entries and line 1 its peer entries, the lines from 2 to 9 have those
-- of one reader each, and those from 10 on the entries of one caller each. So each entry stands in two lines.
use Rattle.std.specs.Prelude.{ℕ, ◌+◌, ◌==◌, ◌||◌, Bool, if◌then◌else◌, List, [], ◌∷◌}
use Rattle.joint_machine.specs.declared.names.Thread.{Thread}
use Rattle.joint_machine.specs.declared.events.Entry.{Entry}
use Rattle.joint_machine.specs.Control.{caller_place}
use Rattle.joint_machine.specs.Lines.{is_peer_event, is_read}
use Rattle.joint_machine.specs.declared.names.Thread.TheVariants.{M}
use Rattle.joint_machine.specs.declared.events.Op.{Op}

-- the line of a managed thread's reader; 0 where there is none
abbrev pub reader_line : Thread → ℕ
reader_line (M n) = 1 + n
reader_line t = 0

-- the line of the list in which an event's entry stands: the managed side's is 0, the peer side's 1, and those from 2
-- to 9 are the readers'
abbrev pub list_line : Thread → Op → ℕ
list_line t o = if is_peer_event t o then 1 else if is_read o then reader_line t else 0

-- the line of a caller
abbrev pub caller_line : Thread → ℕ
caller_line t = caller_place t + 10

-- the line of the list in which an entry belongs, by its event
abbrev pub side_line : Entry → ℕ
side_line e = list_line e.made.caller e.made.op

-- the entry stands in the line, by its event or by its caller
abbrev pub stands_in : ℕ → Entry → Bool
stands_in i e = (i == side_line e) || (i == caller_line e.made.caller)

-- the entries of a line, in their order
abbrev pub entries_in : ℕ → List Entry → List Entry
entries_in i [] = []
entries_in i (e ∷ es) = if stands_in i e then e ∷ entries_in i es else entries_in i es
