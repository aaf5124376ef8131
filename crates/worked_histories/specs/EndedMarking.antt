-- The driver ends the open marking of a peer thread before it begins its own.
use Rattle.std.specs.Prelude.{List, [], ◌∷◌, Some, None}
use Rattle.joint_machine.specs.declared.names.Thread.TheVariants.{M, P, C}
use Rattle.joint_machine.specs.declared.names.Sort.TheVariants.{User}
use Rattle.joint_machine.specs.declared.names.Kind.TheVariants as kind
use Rattle.joint_machine.specs.declared.lines.Act.TheVariants as act
use Rattle.joint_machine.specs.declared.events.Op.TheVariants as op
use Rattle.joint_machine.specs.declared.events.Reply.TheVariants as says
use Rattle.joint_machine.specs.Told.{nothing, snap_of, contraction_of, sweep_of, resolution_of, Noted, said_cleared}
use Rattle.worked_histories.specs.Moments.{IsWorked}
use Rattle.worked_histories.specs.Notes.{linking, note, var, static_no, cell_no, name_no, object_no, peer_no, handle_no}
use Rattle.worked_histories.specs.Notes.{cycle_no, marking_no, span}

-- the whole history
abbrev pub ended_marking : List Noted
ended_marking =
    note 0 (M 1) 1 (op.Make User 0) (says.Made (peer_no 1) (handle_no 1)) None nothing
    ∷ note 1 (M 1) 1 (op.Adopt (var 0) kind.Bridge 1 (peer_no 1) (handle_no 1)) (says.M (object_no 1)) (Some 0) nothing
    ∷ note 2 (M 1) 2 (op.Make User 0) (says.Made (peer_no 2) (handle_no 2)) None nothing
    ∷ note 3 (M 1) 2 (op.Adopt (var 1) kind.Bridge 1 (peer_no 2) (handle_no 2)) (says.M (object_no 2)) (Some 2) nothing
    ∷ note 4 (M 1) 3 (op.Line (act.Set (var 0) 0 (Some (var 1)))) says.Ok None nothing
    ∷ note 5 (M 1) 4 (op.Line (act.Weak (cell_no 0) (var 1))) says.Ok None nothing
    ∷ note 6 (M 1) 5 (op.Lend (var 0) (static_no 0)) (says.H (handle_no 1)) None nothing
    ∷ note 7 (M 1) 5 (op.Land (handle_no 1) (static_no 0)) (says.P (peer_no 1)) (Some 6) nothing
    ∷ note 8 (P 1) 6 (op.Line (act.Load (var 0) (static_no 0))) (says.P (peer_no 1)) None nothing
    ∷ note 9 (P 1) 7 (op.Line (act.WGlobal (name_no 0) (var 0))) (says.H (handle_no 3)) None nothing
    ∷ note 10 (P 1) 8 (op.Line (act.Drop (var 0))) says.Ok None nothing
    ∷ note 11 (P 1) 9 (op.Line (act.Store (static_no 0) None)) says.Ok None nothing
    ∷ note 12 (M 1) 10 (op.Line (act.Drop (var 0))) says.Ok None nothing
    ∷ note 13 (M 1) 11 (op.Line (act.Drop (var 1))) says.Ok None nothing
    ∷ note 14 C 12 (op.Snap (cycle_no 1)) (says.Snapped 2 (span 0 0)) None (snap_of [] (1 ∷ 2 ∷ []) (1 ∷ 2 ∷ []))
    ∷ note 15 C 13 (op.Contract (cycle_no 1)) (says.Sccs 2 1) None
    (contraction_of ((1 ∷ []) ∷ (2 ∷ []) ∷ []) [] ((0, 1) ∷ []))
    ∷ note 16 C 14 (op.Mirror (cycle_no 1)) (says.Refs 1) (Some 14) (linking ((1, 2) ∷ []))
    ∷ note 17 C 15 (op.Weaken (handle_no 1)) says.Ok (Some 14) nothing
    ∷ note 18 C 15 (op.Weaken (handle_no 2)) says.Ok (Some 14) nothing
    ∷ note 19 (P 1) 16 op.Begin (says.Mark (marking_no 1)) None nothing
    ∷ note 20 C 17 op.Sweep (says.Swept (marking_no 1) (span 0 2)) None (sweep_of (1 ∷ 2 ∷ []))
    ∷ note 21 C 17 op.Begin (says.Mark (marking_no 2)) None nothing
    ∷ note 22 C 18 op.Sweep (says.Swept (marking_no 2) (span 2 0)) None (sweep_of [])
    ∷ note 23 C 19 (op.Restore (handle_no 1)) says.Cleared None nothing
    ∷ note 24 C 19 (op.Restore (handle_no 2)) says.Cleared None nothing
    ∷ note 25 C 19 (op.Clear (cycle_no 1)) says.Ok None nothing
    ∷ note 26 C 20 (op.Resolve (cycle_no 1)) (says.Freed (span 0 2))
    (Some 25) (resolution_of (said_cleared ∷ said_cleared ∷ []) (1 ∷ 2 ∷ []))
    ∷ note 27 (M 1) 21 (op.Line (act.Read (cell_no 0))) says.Gone None nothing
    ∷ []

-- the notes make a linked history, and the entries that are steps of the joint machine are a run
abbrev pub EndedMarkingHolds : Type 0
EndedMarkingHolds = IsWorked ended_marking ((1 ∷ 2 ∷ []) ∷ [] ∷ [])
