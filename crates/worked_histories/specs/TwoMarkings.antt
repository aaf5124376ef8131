-- While a cycle is open a peer surfaces and its twin has to wait, and other threads meet the marking of one.
use Rattle.std.specs.Prelude.{List, [], ◌∷◌, Some, None}
use Rattle.joint_machine.specs.declared.names.Thread.TheVariants.{M, P, C}
use Rattle.joint_machine.specs.declared.names.Sort.TheVariants.{User}
use Rattle.joint_machine.specs.declared.names.Kind.TheVariants as kind
use Rattle.joint_machine.specs.declared.lines.Act.TheVariants as act
use Rattle.joint_machine.specs.declared.events.Op.TheVariants as op
use Rattle.joint_machine.specs.declared.events.Reply.TheVariants as says
use Rattle.joint_machine.specs.Told.{nothing, snap_of, contraction_of, references_of, slice_of, sweep_of, resolution_of}
use Rattle.joint_machine.specs.Told.{Noted}
use Rattle.worked_histories.specs.Moments.{IsWorked}
use Rattle.worked_histories.specs.Notes.{note, var, static_no, object_no, peer_no, handle_no, cycle_no, marking_no}
use Rattle.worked_histories.specs.Notes.{span}

-- the whole history
abbrev pub two_markings : List Noted
two_markings =
    note 0 (M 1) 1 (op.Make User 0) (says.Made (peer_no 1) (handle_no 1)) None nothing
    ∷ note 1 (M 1) 1 (op.Adopt (var 0) kind.Bridge 0 (peer_no 1) (handle_no 1)) (says.M (object_no 1)) (Some 0) nothing
    ∷ note 2 (M 1) 2 (op.Lend (var 0) (static_no 0)) (says.H (handle_no 1)) None nothing
    ∷ note 3 (M 1) 2 (op.Land (handle_no 1) (static_no 0)) (says.P (peer_no 1)) (Some 2) nothing
    ∷ note 4 C 3 (op.Snap (cycle_no 1)) (says.Snapped 0 (span 0 0)) None (snap_of [] [] [])
    ∷ note 5 (M 1) 4 (op.Grip (static_no 0)) (says.Gripped (peer_no 1) (handle_no 2) User 0) None nothing
    ∷ note 6 (M 1) 4 (op.Meet (var 1) User 0 (peer_no 1) (handle_no 2)) (says.Pending (cycle_no 1)) (Some 5) nothing
    ∷ note 7 (M 1) 4 (op.Release (handle_no 2)) says.Ok (Some 6) nothing
    ∷ note 8 C 5 (op.Contract (cycle_no 1)) (says.Sccs 0 0) None (contraction_of [] [] [])
    ∷ note 9 C 6 (op.Mirror (cycle_no 1)) (says.Refs 0) (Some 4) (references_of [])
    ∷ note 10 (P 1) 7 op.Begin (says.Mark (marking_no 1)) None nothing
    ∷ note 11 (P 2) 8 op.Begin (says.MarkOpen (marking_no 1)) None nothing
    ∷ note 12 (P 2) 9 (op.Line (act.Slice 3)) (says.MarkOpen (marking_no 1)) None nothing
    ∷ note 13 (P 2) 10 op.Sweep (says.MarkOpen (marking_no 1)) None nothing
    ∷ note 14 (P 1) 11 (op.Line (act.Slice 1)) says.Done None (slice_of (1 ∷ []))
    ∷ note 15 C 12 op.Sweep (says.Swept (marking_no 1) (span 0 0)) None (sweep_of [])
    ∷ note 16 C 12 op.Begin (says.Mark (marking_no 2)) None nothing
    ∷ note 17 (P 1) 13 (op.Line (act.Slice 1)) (says.MarkOpen (marking_no 2)) None nothing
    ∷ note 18 (P 1) 14 op.Sweep (says.MarkOpen (marking_no 2)) None nothing
    ∷ note 19 C 15 op.Sweep (says.Swept (marking_no 2) (span 0 0)) None (sweep_of [])
    ∷ note 20 C 16 (op.Clear (cycle_no 1)) says.Ok None nothing
    ∷ note 21 (P 1) 17 op.Sweep says.NoMark None nothing
    ∷ note 22 (P 1) 18 (op.Line (act.Slice 5)) says.NoMark None nothing
    ∷ note 23 C 19 (op.Resolve (cycle_no 1)) (says.Freed (span 0 0)) (Some 20) (resolution_of [] [])
    ∷ []

-- the notes make a linked history, and the entries that are steps of the joint machine are a run
abbrev pub TwoMarkingsHold : Type 0
TwoMarkingsHold = IsWorked two_markings ([] ∷ [] ∷ [])
