-- While a cycle is open a read of a weak cell is pending, and afterwards the object is gone.
use Rattle.std.specs.Prelude.{List, [], ◌∷◌, Some, None}
use Rattle.joint_machine.specs.declared.names.Thread.TheVariants.{M, C}
use Rattle.joint_machine.specs.declared.names.Sort.TheVariants.{User}
use Rattle.joint_machine.specs.declared.names.Kind.TheVariants as kind
use Rattle.joint_machine.specs.declared.lines.Act.TheVariants as act
use Rattle.joint_machine.specs.declared.events.Op.TheVariants as op
use Rattle.joint_machine.specs.declared.events.Reply.TheVariants as says
use Rattle.joint_machine.specs.Told.{nothing, snap_of, contraction_of, references_of, sweep_of, resolution_of, Noted}
use Rattle.joint_machine.specs.Told.{said_cleared}
use Rattle.worked_histories.specs.Moments.{IsWorked}
use Rattle.worked_histories.specs.Notes.{note, var, cell_no, object_no, peer_no, handle_no, cycle_no, marking_no, span}

-- the whole history
abbrev pub pending_read : List Noted
pending_read =
    note 0 (M 1) 1 (op.Make User 0) (says.Made (peer_no 1) (handle_no 1)) None nothing
    ∷ note 1 (M 1) 1 (op.Adopt (var 0) kind.Bridge 0 (peer_no 1) (handle_no 1)) (says.M (object_no 1)) (Some 0) nothing
    ∷ note 2 (M 1) 2 (op.Line (act.Weak (cell_no 0) (var 0))) says.Ok None nothing
    ∷ note 3 (M 1) 3 (op.Line (act.Drop (var 0))) says.Ok None nothing
    ∷ note 4 C 4 (op.Snap (cycle_no 1)) (says.Snapped 1 (span 0 0)) None (snap_of [] (1 ∷ []) (1 ∷ []))
    ∷ note 5 (M 1) 5 (op.Line (act.Read (cell_no 0))) (says.Pending (cycle_no 1)) None nothing
    ∷ note 6 C 6 (op.Contract (cycle_no 1)) (says.Sccs 1 0) None (contraction_of ((1 ∷ []) ∷ []) [] [])
    ∷ note 7 C 7 (op.Mirror (cycle_no 1)) (says.Refs 0) (Some 4) (references_of [])
    ∷ note 8 C 8 (op.Weaken (handle_no 1)) says.Ok (Some 4) nothing
    ∷ note 9 C 9 op.Begin (says.Mark (marking_no 1)) None nothing
    ∷ note 10 C 10 op.Sweep (says.Swept (marking_no 1) (span 0 1)) None (sweep_of (1 ∷ []))
    ∷ note 11 C 11 (op.Restore (handle_no 1)) says.Cleared None nothing
    ∷ note 12 C 11 (op.Clear (cycle_no 1)) says.Ok None nothing
    ∷ note 13 (M 1) 12 (op.Line (act.Await (cell_no 0))) (says.Pending (cycle_no 1)) None nothing
    ∷ note 14 C 13 (op.Resolve (cycle_no 1)) (says.Freed (span 0 1))
    (Some 12) (resolution_of (said_cleared ∷ []) (1 ∷ []))
    ∷ note 15 (M 1) 14 (op.Line (act.Read (cell_no 0))) says.Gone None nothing
    ∷ []

-- the notes make a linked history, and the entries that are steps of the joint machine are a run
abbrev pub PendingReadHolds : Type 0
PendingReadHolds = IsWorked pending_read ((1 ∷ []) ∷ [])
