-- A cycle across both heaps with one peer in a static: nothing is freed.
use Rattle.std.specs.Prelude.{List, [], ◌∷◌, Some, None}
use Rattle.joint_machine.specs.declared.names.Thread.TheVariants.{M, P, C}
use Rattle.joint_machine.specs.declared.names.Sort.TheVariants.{User}
use Rattle.joint_machine.specs.declared.names.Kind.TheVariants as kind
use Rattle.joint_machine.specs.declared.lines.Act.TheVariants as act
use Rattle.joint_machine.specs.declared.events.Op.TheVariants as op
use Rattle.joint_machine.specs.declared.events.Reply.TheVariants as says
use Rattle.joint_machine.specs.Told.{nothing, snap_of, contraction_of, sweep_of, resolution_of, Noted, said_alive}
use Rattle.worked_histories.specs.Moments.{IsWorked}
use Rattle.worked_histories.specs.Notes.{linking, note, var, static_no, object_no, peer_no, handle_no, cycle_no}
use Rattle.worked_histories.specs.Notes.{marking_no, span}

-- the whole history
abbrev pub held_peer : List Noted
held_peer =
    note 0 (M 1) 1 (op.Make User 1) (says.Made (peer_no 1) (handle_no 1)) None nothing
    ∷ note 1 (M 1) 1 (op.Adopt (var 0) kind.Bridge 1 (peer_no 1) (handle_no 1)) (says.M (object_no 1)) (Some 0) nothing
    ∷ note 2 (M 1) 2 (op.Make User 1) (says.Made (peer_no 2) (handle_no 2)) None nothing
    ∷ note 3 (M 1) 2 (op.Adopt (var 1) kind.Bridge 1 (peer_no 2) (handle_no 2)) (says.M (object_no 2)) (Some 2) nothing
    ∷ note 4 (M 1) 3 (op.Line (act.Set (var 0) 0 (Some (var 1)))) says.Ok None nothing
    ∷ note 5 (M 1) 4 (op.Lend (var 0) (static_no 0)) (says.H (handle_no 1)) None nothing
    ∷ note 6 (M 1) 4 (op.Land (handle_no 1) (static_no 0)) (says.P (peer_no 1)) (Some 5) nothing
    ∷ note 7 (M 1) 5 (op.Lend (var 1) (static_no 1)) (says.H (handle_no 2)) None nothing
    ∷ note 8 (M 1) 5 (op.Land (handle_no 2) (static_no 1)) (says.P (peer_no 2)) (Some 7) nothing
    ∷ note 9 (P 1) 6 (op.Line (act.Load (var 0) (static_no 0))) (says.P (peer_no 1)) None nothing
    ∷ note 10 (P 1) 7 (op.Line (act.Load (var 1) (static_no 1))) (says.P (peer_no 2)) None nothing
    ∷ note 11 (P 1) 8 (op.Line (act.Set (var 1) 0 (Some (var 0)))) says.Ok None nothing
    ∷ note 12 (P 1) 9 (op.Line (act.Drop (var 0))) says.Ok None nothing
    ∷ note 13 (P 1) 10 (op.Line (act.Drop (var 1))) says.Ok None nothing
    ∷ note 14 (P 1) 11 (op.Line (act.Store (static_no 1) None)) says.Ok None nothing
    ∷ note 15 (M 1) 12 (op.Line (act.Drop (var 0))) says.Ok None nothing
    ∷ note 16 (M 1) 13 (op.Line (act.Drop (var 1))) says.Ok None nothing
    ∷ note 17 C 14 (op.Snap (cycle_no 1)) (says.Snapped 2 (span 0 0)) None (snap_of [] (1 ∷ 2 ∷ []) (1 ∷ 2 ∷ []))
    ∷ note 18 C 14 (op.Contract (cycle_no 1)) (says.Sccs 2 1) None
    (contraction_of ((1 ∷ []) ∷ (2 ∷ []) ∷ []) [] ((0, 1) ∷ []))
    ∷ note 19 C 14 (op.Mirror (cycle_no 1)) (says.Refs 1) (Some 17) (linking ((1, 2) ∷ []))
    ∷ note 20 C 14 (op.Weaken (handle_no 1)) says.Ok (Some 17) nothing
    ∷ note 21 C 14 (op.Weaken (handle_no 2)) says.Ok (Some 17) nothing
    ∷ note 22 C 14 op.Begin (says.Mark (marking_no 1)) None nothing
    ∷ note 23 C 14 op.Sweep (says.Swept (marking_no 1) (span 0 0)) None (sweep_of [])
    ∷ note 24 C 14 (op.Restore (handle_no 1)) (says.Renewed (handle_no 3)) None nothing
    ∷ note 25 C 14 (op.Restore (handle_no 2)) (says.Renewed (handle_no 4)) None nothing
    ∷ note 26 C 14 (op.Clear (cycle_no 1)) says.Ok None nothing
    ∷ note 27 C 14 (op.Resolve (cycle_no 1)) (says.Freed (span 0 0))
    (Some 26) (resolution_of ((said_alive 3) ∷ (said_alive 4) ∷ []) [])
    ∷ []

-- the notes make a linked history, and the entries that are steps of the joint machine are a run
abbrev pub HeldPeerHolds : Type 0
HeldPeerHolds = IsWorked held_peer ([] ∷ [])
