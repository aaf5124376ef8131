-- A weak name gives the peer of a candidate back after the snapshot: the cycle keeps both.
use Rattle.std.specs.Prelude.{List, [], ◌∷◌, Some, None}
use Rattle.joint_machine.specs.declared.names.Thread.TheVariants.{M, P, C}
use Rattle.joint_machine.specs.declared.names.Sort.TheVariants.{User}
use Rattle.joint_machine.specs.declared.names.Kind.TheVariants as kind
use Rattle.joint_machine.specs.declared.lines.Act.TheVariants as act
use Rattle.joint_machine.specs.declared.events.Op.TheVariants as op
use Rattle.joint_machine.specs.declared.events.Reply.TheVariants as says
use Rattle.joint_machine.specs.Told.{nothing, snap_of, contraction_of, references_of, sweep_of, resolution_of, Noted}
use Rattle.joint_machine.specs.Told.{said_alive}
use Rattle.worked_histories.specs.Moments.{IsWorked}
use Rattle.worked_histories.specs.Notes.{note, var, static_no, name_no, object_no, peer_no, handle_no, cycle_no}
use Rattle.worked_histories.specs.Notes.{marking_no, span}

-- the whole history
abbrev pub resurrected : List Noted
resurrected =
    note 0 (M 1) 1 (op.Make User 0) (says.Made (peer_no 1) (handle_no 1)) None nothing
    ∷ note 1 (M 1) 1 (op.Adopt (var 0) kind.Bridge 0 (peer_no 1) (handle_no 1)) (says.M (object_no 1)) (Some 0) nothing
    ∷ note 2 (M 1) 2 (op.Lend (var 0) (static_no 0)) (says.H (handle_no 1)) None nothing
    ∷ note 3 (M 1) 2 (op.Land (handle_no 1) (static_no 0)) (says.P (peer_no 1)) (Some 2) nothing
    ∷ note 4 (P 1) 3 (op.Line (act.Load (var 0) (static_no 0))) (says.P (peer_no 1)) None nothing
    ∷ note 5 (P 1) 4 (op.Line (act.WGlobal (name_no 0) (var 0))) (says.H (handle_no 2)) None nothing
    ∷ note 6 (P 1) 5 (op.Line (act.Drop (var 0))) says.Ok None nothing
    ∷ note 7 (P 1) 6 (op.Line (act.Store (static_no 0) None)) says.Ok None nothing
    ∷ note 8 (M 1) 7 (op.Line (act.Drop (var 0))) says.Ok None nothing
    ∷ note 9 C 8 (op.Snap (cycle_no 1)) (says.Snapped 1 (span 0 0)) None (snap_of [] (1 ∷ []) (1 ∷ []))
    ∷ note 10 (P 1) 9 (op.Line (act.WRead (var 1) (name_no 0))) (says.P (peer_no 1)) None nothing
    ∷ note 11 C 10 (op.Contract (cycle_no 1)) (says.Sccs 1 0) None (contraction_of ((1 ∷ []) ∷ []) [] [])
    ∷ note 12 C 10 (op.Mirror (cycle_no 1)) (says.Refs 0) (Some 9) (references_of [])
    ∷ note 13 C 10 (op.Weaken (handle_no 1)) says.Ok (Some 9) nothing
    ∷ note 14 C 10 op.Begin (says.Mark (marking_no 1)) None nothing
    ∷ note 15 C 10 op.Sweep (says.Swept (marking_no 1) (span 0 0)) None (sweep_of [])
    ∷ note 16 C 10 (op.Restore (handle_no 1)) (says.Renewed (handle_no 3)) None nothing
    ∷ note 17 C 10 (op.Clear (cycle_no 1)) says.Ok None nothing
    ∷ note 18 C 10 (op.Resolve (cycle_no 1)) (says.Freed (span 0 0)) (Some 17) (resolution_of ((said_alive 3) ∷ []) [])
    ∷ []

-- the notes make a linked history, and the entries that are steps of the joint machine are a run
abbrev pub ResurrectedHolds : Type 0
ResurrectedHolds = IsWorked resurrected ([] ∷ [])
