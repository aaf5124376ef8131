-- Two cycles are abandoned, one before and one after its contraction: nothing is freed.
use Rattle.std.specs.Prelude.{List, [], ◌∷◌, Some, None}
use Rattle.joint_machine.specs.declared.names.Thread.TheVariants.{M, C}
use Rattle.joint_machine.specs.declared.names.Sort.TheVariants.{User}
use Rattle.joint_machine.specs.declared.names.Kind.TheVariants as kind
use Rattle.joint_machine.specs.declared.lines.Act.TheVariants as act
use Rattle.joint_machine.specs.declared.events.Op.TheVariants as op
use Rattle.joint_machine.specs.declared.events.Reply.TheVariants as says
use Rattle.joint_machine.specs.Told.{nothing, snap_of, contraction_of, Noted}
use Rattle.worked_histories.specs.Moments.{IsWorked}
use Rattle.worked_histories.specs.Notes.{note, var, object_no, peer_no, handle_no, cycle_no, span}

-- the whole history
abbrev pub abandoned : List Noted
abandoned =
    note 0 (M 1) 1 (op.Make User 0) (says.Made (peer_no 1) (handle_no 1)) None nothing
    ∷ note 1 (M 1) 1 (op.Adopt (var 0) kind.Bridge 0 (peer_no 1) (handle_no 1)) (says.M (object_no 1)) (Some 0) nothing
    ∷ note 2 (M 1) 2 (op.Line (act.Drop (var 0))) says.Ok None nothing
    ∷ note 3 C 3 (op.Snap (cycle_no 1)) (says.Snapped 1 (span 0 0)) None (snap_of [] (1 ∷ []) (1 ∷ []))
    ∷ note 4 C 4 (op.Abandon (cycle_no 1)) says.Ok None nothing
    ∷ note 5 C 5 (op.Snap (cycle_no 2)) (says.Snapped 1 (span 0 0)) None (snap_of [] (1 ∷ []) (1 ∷ []))
    ∷ note 6 C 5 (op.Contract (cycle_no 2)) (says.Sccs 1 0) None (contraction_of ((1 ∷ []) ∷ []) [] [])
    ∷ note 7 C 5 (op.Abandon (cycle_no 2)) says.Ok None nothing
    ∷ []

-- the notes make a linked history, and the entries that are steps of the joint machine are a run
abbrev pub AbandonedHolds : Type 0
AbandonedHolds = IsWorked abandoned []
