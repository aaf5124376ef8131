-- A peer thread collects while the handles are weakened: it frees the peers before the own marking of the cycle begins.
use Rattle.std.specs.Prelude.{List, [], ◌∷◌, Some, None}
use Rattle.joint_machine.specs.declared.names.Thread.TheVariants.{M, P, C}
use Rattle.joint_machine.specs.declared.names.Sort.TheVariants.{User}
use Rattle.joint_machine.specs.declared.names.Kind.TheVariants as kind
use Rattle.joint_machine.specs.declared.lines.Act.TheVariants as act
use Rattle.joint_machine.specs.declared.events.Op.TheVariants as op
use Rattle.joint_machine.specs.declared.events.Reply.TheVariants as says
use Rattle.joint_machine.specs.Told.{nothing, snap_of, contraction_of, sweep_of, resolution_of, Noted, said_cleared}
use Rattle.worked_histories.specs.Moments.{IsWorked}
use Rattle.worked_histories.specs.Notes.{linking, note, var, object_no, peer_no, handle_no, cycle_no, marking_no, span}

-- the whole history
abbrev pub peer_marking : List Noted
peer_marking =
    note 0 (M 1) 1 (op.Make User 0) (says.Made (peer_no 1) (handle_no 1)) None nothing
    ∷ note 1 (M 1) 1 (op.Adopt (var 0) kind.Bridge 1 (peer_no 1) (handle_no 1)) (says.M (object_no 1)) (Some 0) nothing
    ∷ note 2 (M 1) 2 (op.Make User 0) (says.Made (peer_no 2) (handle_no 2)) None nothing
    ∷ note 3 (M 1) 2 (op.Adopt (var 1) kind.Bridge 1 (peer_no 2) (handle_no 2)) (says.M (object_no 2)) (Some 2) nothing
    ∷ note 4 (M 1) 3 (op.Line (act.Set (var 0) 0 (Some (var 1)))) says.Ok None nothing
    ∷ note 5 (M 1) 4 (op.Line (act.Set (var 1) 0 (Some (var 0)))) says.Ok None nothing
    ∷ note 6 (M 1) 5 (op.Line (act.Drop (var 0))) says.Ok None nothing
    ∷ note 7 (M 1) 6 (op.Line (act.Drop (var 1))) says.Ok None nothing
    ∷ note 8 C 7 (op.Snap (cycle_no 1)) (says.Snapped 2 (span 0 0)) None (snap_of [] (1 ∷ 2 ∷ []) (1 ∷ 2 ∷ []))
    ∷ note 9 C 8 (op.Contract (cycle_no 1)) (says.Sccs 1 0) None (contraction_of ((1 ∷ 2 ∷ []) ∷ []) [] [])
    ∷ note 10 C 9 (op.Mirror (cycle_no 1)) (says.Refs 2) (Some 8) (linking ((1, 2) ∷ (2, 1) ∷ []))
    ∷ note 11 C 10 (op.Weaken (handle_no 1)) says.Ok (Some 8) nothing
    ∷ note 12 C 10 (op.Weaken (handle_no 2)) says.Ok (Some 8) nothing
    ∷ note 13 (P 1) 11 op.Begin (says.Mark (marking_no 1)) None nothing
    ∷ note 14 (P 1) 11 op.Sweep (says.Swept (marking_no 1) (span 0 2)) None (sweep_of (1 ∷ 2 ∷ []))
    ∷ note 15 C 12 op.Begin (says.Mark (marking_no 2)) None nothing
    ∷ note 16 C 13 op.Sweep (says.Swept (marking_no 2) (span 2 0)) None (sweep_of [])
    ∷ note 17 C 14 (op.Restore (handle_no 1)) says.Cleared None nothing
    ∷ note 18 C 14 (op.Restore (handle_no 2)) says.Cleared None nothing
    ∷ note 19 C 14 (op.Clear (cycle_no 1)) says.Ok None nothing
    ∷ note 20 C 15 (op.Resolve (cycle_no 1)) (says.Freed (span 0 2))
    (Some 19) (resolution_of (said_cleared ∷ said_cleared ∷ []) (1 ∷ 2 ∷ []))
    ∷ []

-- the notes make a linked history, and the entries that are steps of the joint machine are a run
abbrev pub PeerMarkingHolds : Type 0
PeerMarkingHolds = IsWorked peer_marking ((1 ∷ 2 ∷ []) ∷ [] ∷ [])
