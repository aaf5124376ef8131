-- A strong global name holds a peer, and a weak one does not.
use Rattle.std.specs.Prelude.{List, [], ◌∷◌, None}
use Rattle.joint_machine.specs.declared.names.Thread.TheVariants.{P}
use Rattle.joint_machine.specs.declared.lines.Act.TheVariants as act
use Rattle.joint_machine.specs.declared.events.Op.TheVariants as op
use Rattle.joint_machine.specs.declared.events.Reply.TheVariants as says
use Rattle.joint_machine.specs.Told.{nothing, sweep_of, Noted}
use Rattle.worked_histories.specs.Moments.{IsWorked}
use Rattle.worked_histories.specs.Notes.{note, var, name_no, peer_no, handle_no, marking_no, span}

-- the whole history
abbrev pub global_names : List Noted
global_names =
    note 0 (P 1) 1 (op.Line (act.NewPeer (var 0) 1)) (says.P (peer_no 1)) None nothing
    ∷ note 1 (P 1) 2 (op.Line (act.Global (name_no 0) (var 0))) (says.H (handle_no 1)) None nothing
    ∷ note 2 (P 1) 3 (op.Line (act.WGlobal (name_no 1) (var 0))) (says.H (handle_no 2)) None nothing
    ∷ note 3 (P 1) 4 (op.Line (act.Drop (var 0))) says.Ok None nothing
    ∷ note 4 (P 1) 5 op.Begin (says.Mark (marking_no 1)) None nothing
    ∷ note 5 (P 1) 5 op.Sweep (says.Swept (marking_no 1) (span 0 0)) None (sweep_of [])
    ∷ note 6 (P 1) 6 (op.Line (act.UnGlobal (name_no 0))) says.Ok None nothing
    ∷ note 7 (P 1) 7 op.Begin (says.Mark (marking_no 2)) None nothing
    ∷ note 8 (P 1) 7 op.Sweep (says.Swept (marking_no 2) (span 0 1)) None (sweep_of (1 ∷ []))
    ∷ note 9 (P 1) 8 (op.Line (act.WRead (var 1) (name_no 1))) says.Gone None nothing
    ∷ note 10 (P 1) 9 (op.Line (act.UnGlobal (name_no 1))) says.Ok None nothing
    ∷ note 11 (P 1) 10 (op.Line (act.UnGlobal (name_no 1))) says.Unset None nothing
    ∷ []

-- the notes make a linked history, and the entries that are steps of the joint machine are a run
abbrev pub GlobalNamesHold : Type 0
GlobalNamesHold = IsWorked global_names ([] ∷ (1 ∷ []) ∷ [])
