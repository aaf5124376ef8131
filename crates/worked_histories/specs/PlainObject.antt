-- A plain object that nothing names is freed by the snapshot itself.
use Rattle.std.specs.Prelude.{List, [], ◌∷◌, Some, None}
use Rattle.joint_machine.specs.declared.names.Thread.TheVariants.{M, C}
use Rattle.joint_machine.specs.declared.names.Kind.TheVariants as kind
use Rattle.joint_machine.specs.declared.lines.Act.TheVariants as act
use Rattle.joint_machine.specs.declared.events.Op.TheVariants as op
use Rattle.joint_machine.specs.declared.events.Reply.TheVariants as says
use Rattle.joint_machine.specs.Told.{nothing, snap_of, contraction_of, references_of, sweep_of, resolution_of, Noted}
use Rattle.worked_histories.specs.Moments.{IsWorked}
use Rattle.worked_histories.specs.Notes.{note, var, object_no, cycle_no, marking_no, span}

-- the whole history
abbrev pub plain_object : List Noted
plain_object =
    note 0 (M 1) 1 (op.Line (act.New (var 0) kind.Plain 0)) (says.M (object_no 1)) None nothing
    ∷ note 1 (M 1) 2 (op.Line (act.Drop (var 0))) says.Ok None nothing
    ∷ note 2 C 3 (op.Snap (cycle_no 1)) (says.Snapped 0 (span 0 1)) None (snap_of (1 ∷ []) [] [])
    ∷ note 3 C 3 (op.Contract (cycle_no 1)) (says.Sccs 0 0) None (contraction_of [] [] [])
    ∷ note 4 C 3 (op.Mirror (cycle_no 1)) (says.Refs 0) (Some 2) (references_of [])
    ∷ note 5 C 3 op.Begin (says.Mark (marking_no 1)) None nothing
    ∷ note 6 C 3 op.Sweep (says.Swept (marking_no 1) (span 0 0)) None (sweep_of [])
    ∷ note 7 C 3 (op.Clear (cycle_no 1)) says.Ok None nothing
    ∷ note 8 C 3 (op.Resolve (cycle_no 1)) (says.Freed (span 1 0)) (Some 7) (resolution_of [] [])
    ∷ []

-- the notes make a linked history, and the entries that are steps of the joint machine are a run
abbrev pub PlainObjectHolds : Type 0
PlainObjectHolds = IsWorked plain_object ([] ∷ [])
