-- The histories with reads of weak cells, where each read is an entry of a reader of its own.
use Rattle.std.specs.Prelude.{◌++◌, take, [], ◌∷◌, ℕ, List, Option, None}
use Rattle.joint_machine.specs.declared.names.Thread.TheVariants.{M}
use Rattle.joint_machine.specs.LinkedHistories.{IsLinkedBy, managed_end}
use Rattle.joint_machine.specs.Readers.{MayBePending, MayBeUnset}
use Rattle.joint_machine.specs.declared.lines.Act.TheVariants as act
use Rattle.joint_machine.specs.declared.events.Op.TheVariants as op
use Rattle.joint_machine.specs.declared.events.Reply.TheVariants as says
use Rattle.joint_machine.specs.Told.{Noted, nothing}
use Rattle.computed_histories.specs.Readings.{finished_of}
use Rattle.worked_histories.specs.Notes.{note, var, cell_no, cycle_no}
use Rattle.worked_histories.specs.PendingRead.{pending_read}
use Rattle.worked_histories.specs.Pins.{pinned_object}

-- the cells at the end of a history
abbrev pub cells_of : List Noted → List (Option ℕ)
cells_of ns = (managed_end ns).cells

-- the notes make a linked history
abbrev pub PendingReadings : Type 0
PendingReadings = IsLinkedBy (finished_of pending_read) pending_read

abbrev pub PinnedReadings : Type 0
PinnedReadings = IsLinkedBy (finished_of pinned_object) pinned_object

-- the history up to the end of the cycle, and then a read that is pending still
abbrev pub pending_after_end : List Noted
pending_after_end = take 15 pending_read ++ note 15 (M 1) 14
    (op.Line (act.Read (cell_no 0))) (says.Pending (cycle_no 1)) None nothing ∷ []

-- the same with an entry of the reader between, which shows that the managed side went on
abbrev pub pending_too_late : List Noted
pending_too_late = take 15 pending_read
    ++ note 15 (M 1) 14 (op.Line (act.Drop (var 0))) says.Ok None nothing
    ∷ note 16 (M 1) 15 (op.Line (act.Read (cell_no 0))) (says.Pending (cycle_no 1)) None nothing
    ∷ []

-- a read may be pending as long as its reader can't know of the end, and no longer
pub record PendingEnds : Type 0 where
  pub late : MayBePending pending_after_end 15 (M 1) 1
  pub too_late : MayBePending pending_too_late 16 (M 1) 1 → ⊥

-- a read of a cell that the reader itself set can't find it unset
abbrev pub OwnCellIsSet : Type 0
OwnCellIsSet = MayBeUnset pinned_object (cells_of pinned_object) 6 (M 1) 5 → ⊥
