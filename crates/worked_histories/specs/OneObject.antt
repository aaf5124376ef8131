-- One bridge object that is let go: a cycle frees it with its peer, and its notice is taken.
use Rattle.std.specs.Prelude.{List, [], ◌∷◌, Some, None}
use Rattle.joint_machine.specs.declared.names.Thread.TheVariants.{M, C}
use Rattle.joint_machine.specs.declared.names.Sort.TheVariants.{User}
use Rattle.joint_machine.specs.declared.names.Kind.TheVariants as kind
use Rattle.joint_machine.specs.declared.lines.Act.TheVariants as act
use Rattle.joint_machine.specs.declared.events.Op.TheVariants as op
use Rattle.joint_machine.specs.declared.events.Reply.TheVariants as says
use Rattle.joint_machine.specs.Told.{nothing, snap_of, contraction_of, references_of, sweep_of, resolution_of, Noted}
use Rattle.joint_machine.specs.Told.{said_cleared}
use Rattle.worked_histories.specs.Moments.{IsWorked}
use Rattle.worked_histories.specs.Notes.{note, var, object_no, peer_no, handle_no, cycle_no, marking_no, span}

-- the whole history
abbrev pub one_object : List Noted
one_object =
    note 0 (M 1) 1 (op.Make User 0) (says.Made (peer_no 1) (handle_no 1)) None nothing
    ∷ note 1 (M 1) 1 (op.Adopt (var 0) kind.Bridge 0 (peer_no 1) (handle_no 1)) (says.M (object_no 1)) (Some 0) nothing
    ∷ note 2 (M 1) 2 (op.Line (act.Drop (var 0))) says.Ok None nothing
    ∷ note 3 C 3 (op.Snap (cycle_no 1)) (says.Snapped 1 (span 0 0)) None (snap_of [] (1 ∷ []) (1 ∷ []))
    ∷ note 4 C 3 (op.Contract (cycle_no 1)) (says.Sccs 1 0) None (contraction_of ((1 ∷ []) ∷ []) [] [])
    ∷ note 5 C 3 (op.Mirror (cycle_no 1)) (says.Refs 0) (Some 3) (references_of [])
    ∷ note 6 C 3 (op.Weaken (handle_no 1)) says.Ok (Some 3) nothing
    ∷ note 7 C 3 op.Begin (says.Mark (marking_no 1)) None nothing
    ∷ note 8 C 3 op.Sweep (says.Swept (marking_no 1) (span 0 1)) None (sweep_of (1 ∷ []))
    ∷ note 9 C 3 (op.Restore (handle_no 1)) says.Cleared None nothing
    ∷ note 10 C 3 (op.Clear (cycle_no 1)) says.Ok None nothing
    ∷ note 11 C 3 (op.Resolve (cycle_no 1)) (says.Freed (span 0 1))
    (Some 10) (resolution_of (said_cleared ∷ []) (1 ∷ []))
    ∷ note 12 C 4 (op.Line (act.Finalise 1)) (says.Took (span 0 1)) None nothing
    ∷ note 13 C 5 (op.Line (act.Finalise 5)) (says.Took (span 1 0)) None nothing
    ∷ []

-- the notes make a linked history, and the entries that are steps of the joint machine are a run
abbrev pub OneObjectHolds : Type 0
OneObjectHolds = IsWorked one_object ((1 ∷ []) ∷ [])
