-- A cycle keeps an object, whose handle has another number afterwards: the object's handle is the new one, and no
-- longer the old one.
use Rattle.std.specs.Prelude.{◌≡◌, List, [], ◌∷◌, ◌++◌, Some, None}
use Rattle.joint_machine.specs.declared.names.Thread.TheVariants.{M, C}
use Rattle.joint_machine.specs.declared.names.Sort.TheVariants.{User}
use Rattle.joint_machine.specs.declared.names.Kind.TheVariants as kind
use Rattle.joint_machine.specs.declared.lines.Act.TheVariants as act
use Rattle.joint_machine.specs.declared.events.Op.TheVariants as op
use Rattle.joint_machine.specs.declared.events.Reply.{Reply}
use Rattle.joint_machine.specs.declared.events.Reply.TheVariants as says
use Rattle.joint_machine.specs.Linked.{Linkage, opening_linkage, MayCome}
use Rattle.joint_machine.specs.Replaying.{replayed}
use Rattle.joint_machine.specs.Told.{nothing, snap_of, contraction_of, references_of, sweep_of, resolution_of, Noted}
use Rattle.joint_machine.specs.Told.{said_alive}
use Rattle.worked_histories.specs.Moments.{IsWorked}
use Rattle.worked_histories.specs.Notes.{note, var, static_no, cell_no, object_no, peer_no, handle_no, cycle_no}
use Rattle.worked_histories.specs.Notes.{marking_no, span}

-- the object's peer comes into a static, its handle is read, and only a weak cell knows it any more
abbrev pub renewed_before : List Noted
renewed_before =
    note 0 (M 1) 1 (op.Make User 0) (says.Made (peer_no 1) (handle_no 1)) None nothing
    ∷ note 1 (M 1) 1 (op.Adopt (var 0) kind.Bridge 0 (peer_no 1) (handle_no 1)) (says.M (object_no 1)) (Some 0) nothing
    ∷ note 2 (M 1) 2 (op.Lend (var 0) (static_no 0)) (says.H (handle_no 1)) None nothing
    ∷ note 3 (M 1) 2 (op.Land (handle_no 1) (static_no 0)) (says.P (peer_no 1)) (Some 2) nothing
    ∷ note 4 (M 1) 3 (op.Line (act.Handle (var 0))) (says.H (handle_no 1)) None nothing
    ∷ note 5 (M 1) 4 (op.Line (act.Weak (cell_no 0) (var 0))) says.Ok None nothing
    ∷ note 6 (M 1) 5 (op.Line (act.Drop (var 0))) says.Ok None nothing
    ∷ []

-- a cycle keeps it
abbrev pub renewed_cycle : List Noted
renewed_cycle =
    note 7 C 6 (op.Snap (cycle_no 1)) (says.Snapped 1 (span 0 0)) None (snap_of [] (1 ∷ []) (1 ∷ []))
    ∷ note 8 C 6 (op.Contract (cycle_no 1)) (says.Sccs 1 0) None (contraction_of ((1 ∷ []) ∷ []) [] [])
    ∷ note 9 C 6 (op.Mirror (cycle_no 1)) (says.Refs 0) (Some 7) (references_of [])
    ∷ note 10 C 6 (op.Weaken (handle_no 1)) says.Ok (Some 7) nothing
    ∷ note 11 C 6 op.Begin (says.Mark (marking_no 1)) None nothing
    ∷ note 12 C 6 op.Sweep (says.Swept (marking_no 1) (span 0 0)) None (sweep_of [])
    ∷ note 13 C 6 (op.Restore (handle_no 1)) (says.Renewed (handle_no 2)) None nothing
    ∷ note 14 C 6 (op.Clear (cycle_no 1)) says.Ok None nothing
    ∷ note 15 C 6 (op.Resolve (cycle_no 1)) (says.Freed (span 0 0)) (Some 14) (resolution_of ((said_alive 2) ∷ []) [])
    ∷ []

-- the object is read and taken
abbrev pub renewed_taken : List Noted
renewed_taken =
    note 16 (M 1) 7 (op.Line (act.Read (cell_no 0))) (says.M (object_no 1)) None nothing
    ∷ note 17 (M 1) 8 (op.Line (act.Take (var 0))) (says.M (object_no 1)) None nothing
    ∷ []

-- the whole history
abbrev pub renewed_handle : List Noted
renewed_handle = renewed_before ++ (renewed_cycle ++
    (renewed_taken ++ note 18 (M 1) 9 (op.Line (act.Handle (var 0))) (says.H (handle_no 2)) None nothing ∷ []))

-- the notes make a linked history, and the entries that are steps of the joint machine are a run
abbrev pub RenewedHandleHolds : Type 0
RenewedHandleHolds = IsWorked renewed_handle ([] ∷ [])

-- the state before the handle is read again
abbrev pub renewed_and_taken : Linkage
renewed_and_taken = replayed opening_linkage (renewed_before ++ (renewed_cycle ++ renewed_taken))

-- an answer that may come there is the new handle, and nothing else
abbrev pub ReadsRenewed : Type 0
ReadsRenewed = (reply : Reply) → MayCome renewed_and_taken
    (note 18 (M 1) 9 (op.Line (act.Handle (var 0))) reply None nothing) → reply ≡ says.H (handle_no 2)
