-- Phases out of their order are refused, and change nothing.
use Rattle.std.specs.Prelude.{List, [], ◌∷◌, Some, None}
use Rattle.joint_machine.specs.declared.names.Thread.TheVariants.{C}
use Rattle.joint_machine.specs.declared.names.Phase.TheVariants as at
use Rattle.joint_machine.specs.declared.names.PhaseWord.TheVariants as word
use Rattle.joint_machine.specs.declared.events.Op.TheVariants as op
use Rattle.joint_machine.specs.declared.events.Reply.TheVariants as says
use Rattle.joint_machine.specs.Told.{nothing, snap_of, contraction_of, references_of, sweep_of, resolution_of, phase_of}
use Rattle.joint_machine.specs.Told.{Noted}
use Rattle.worked_histories.specs.Moments.{IsWorked}
use Rattle.worked_histories.specs.Notes.{note, cycle_no, marking_no, span}

-- the whole history
abbrev pub refusals : List Noted
refusals =
    note 0 C 1 (op.Refused word.Sweep) (says.At at.Idle) None (phase_of at.Idle)
    ∷ note 1 C 2 (op.Snap (cycle_no 1)) (says.Snapped 0 (span 0 0)) None (snap_of [] [] [])
    ∷ note 2 C 3 (op.Refused word.Snap) (says.CycleOpen (cycle_no 1)) None (phase_of at.Snapped)
    ∷ note 3 C 4 (op.Refused word.Mirror) (says.At at.Snapped) None (phase_of at.Snapped)
    ∷ note 4 C 4 (op.Contract (cycle_no 1)) (says.Sccs 0 0) None (contraction_of [] [] [])
    ∷ note 5 C 4 (op.Mirror (cycle_no 1)) (says.Refs 0) (Some 1) (references_of [])
    ∷ note 6 C 4 op.Begin (says.Mark (marking_no 1)) None nothing
    ∷ note 7 C 4 op.Sweep (says.Swept (marking_no 1) (span 0 0)) None (sweep_of [])
    ∷ note 8 C 4 (op.Clear (cycle_no 1)) says.Ok None nothing
    ∷ note 9 C 4 (op.Resolve (cycle_no 1)) (says.Freed (span 0 0)) (Some 8) (resolution_of [] [])
    ∷ []

-- the notes make a linked history, and the entries that are steps of the joint machine are a run
abbrev pub RefusalsHold : Type 0
RefusalsHold = IsWorked refusals ([] ∷ [])
