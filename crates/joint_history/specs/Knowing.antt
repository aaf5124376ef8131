-- The lines that a seat knows, by entries. That they are those of a past of the one run, and stay so, is said by the
-- laws of views (`Rattle.view_laws.specs.Knowing`).
use Rattle.std.specs.Prelude.{ℕ, List}
use Rattle.joint_machine.specs.declared.events.Entry.{Entry}
use Rattle.joint_machine.specs.Told.{Told, Noted}
use Rattle.order_table.specs.declared.views.View.{View}
use Rattle.order_table.specs.Facts.{line_entries}
use Rattle.order_table.specs.Views.{known}

-- the entries of a line that a view knows
abbrev pub line_known : View → ℕ → List Entry
line_known v i = line_entries (known v i)

-- an entry with what is told beside it
abbrev pub note_of : Entry → Told → Noted
note_of e told = record { entry = e; told = told }
