-- Answers that the other histories don't have: a filled pin and an unset cell while a cycle is open, a field that holds
-- nothing, notices when none was queued, a framework's twin without fields, and a peer thread that begins between the
-- own sweep and the restore.
use Rattle.std.specs.Prelude.{List, [], ◌∷◌, Some, None}
use Rattle.joint_machine.specs.declared.names.Thread.TheVariants.{M, P, C}
use Rattle.joint_machine.specs.declared.names.Sort.TheVariants.{User, Framework}
use Rattle.joint_machine.specs.declared.names.Kind.TheVariants as kind
use Rattle.joint_machine.specs.declared.lines.Act.TheVariants as act
use Rattle.joint_machine.specs.declared.events.Op.TheVariants as op
use Rattle.joint_machine.specs.declared.events.Reply.TheVariants as says
use Rattle.joint_machine.specs.Told.{nothing, snap_of, contraction_of, references_of, sweep_of, resolution_of, Noted}
use Rattle.joint_machine.specs.Told.{said_cleared}
use Rattle.worked_histories.specs.Moments.{IsWorked}
use Rattle.worked_histories.specs.Notes.{note, var, static_no, cell_no, object_no, peer_no, handle_no, cycle_no}
use Rattle.worked_histories.specs.Notes.{marking_no, span}

-- a bridge object is in a pin, and reading its empty field makes a variable let go of a plain object, which the
-- snapshot frees. While the cycle is open a filled pin answers that it is, and an unset cell that the cycle is open; no
-- notice was queued, since what was freed had no peer
abbrev pub answers_while_open : List Noted
answers_while_open =
    note 0 (M 1) 1 (op.Make User 0) (says.Made (peer_no 1) (handle_no 1)) None nothing
    ∷ note 1 (M 1) 1 (op.Adopt (var 0) kind.Bridge 1 (peer_no 1) (handle_no 1)) (says.M (object_no 1)) (Some 0) nothing
    ∷ note 2 (M 1) 2 (op.Line (act.Weak (cell_no 0) (var 0))) says.Ok None nothing
    ∷ note 3 (M 1) 3 (op.Line (act.Read (cell_no 0))) (says.M (object_no 1)) None nothing
    ∷ note 4 (M 1) 4 (op.Line (act.New (var 1) kind.Plain 0)) (says.M (object_no 2)) None nothing
    ∷ note 5 (M 1) 5 (op.Line (act.Get (var 1) (var 0) 0)) says.Null None nothing
    ∷ note 6 (M 1) 6 (op.Line (act.Handle (var 1))) says.Empty None nothing
    ∷ note 7 (M 1) 7 (op.Line (act.Drop (var 0))) says.Ok None nothing
    ∷ note 8 C 8 (op.Snap (cycle_no 1)) (says.Snapped 0 (span 0 1)) None (snap_of (2 ∷ []) [] [])
    ∷ note 9 (M 1) 9 (op.Line (act.Read (cell_no 0))) (says.Pinned (object_no 1)) None nothing
    ∷ note 10 (M 2) 10 (op.Line (act.Read (cell_no 1))) (says.Pending (cycle_no 1)) None nothing
    ∷ note 11 C 11 (op.Contract (cycle_no 1)) (says.Sccs 0 0) None (contraction_of [] [] [])
    ∷ note 12 C 12 (op.Mirror (cycle_no 1)) (says.Refs 0) (Some 8) (references_of [])
    ∷ note 13 C 13 op.Begin (says.Mark (marking_no 1)) None nothing
    ∷ note 14 C 14 op.Sweep (says.Swept (marking_no 1) (span 0 0)) None (sweep_of [])
    ∷ note 15 C 15 (op.Clear (cycle_no 1)) says.Ok None nothing
    ∷ note 16 C 16 (op.Resolve (cycle_no 1)) (says.Freed (span 1 0)) (Some 15) (resolution_of [] [])
    ∷ note 17 C 17 (op.Line (act.Finalise 8)) (says.Took (span 0 0)) None nothing
    ∷ note 18 (M 2) 18 (op.Line (act.Read (cell_no 1))) says.Unset None nothing
    ∷ []

-- a framework object gives its handle up; its peer has two fields, and the twin that is made for it none
abbrev pub framework_twin : List Noted
framework_twin =
    note 0 (M 1) 1 (op.Make Framework 2) (says.Made (peer_no 1) (handle_no 1)) None nothing
    ∷ note 1 (M 1) 1 (op.Adopt (var 0) kind.LeafBridge 0 (peer_no 1) (handle_no 1))
    (says.M (object_no 1)) (Some 0) nothing
    ∷ note 2 (M 1) 2 (op.Lend (var 0) (static_no 0)) (says.H (handle_no 1)) None nothing
    ∷ note 3 (M 1) 2 (op.Land (handle_no 1) (static_no 0)) (says.P (peer_no 1)) (Some 2) nothing
    ∷ note 4 (M 1) 3 (op.Give (var 0)) (says.H (handle_no 1)) None nothing
    ∷ note 5 (M 1) 3 (op.Release (handle_no 1)) says.Ok (Some 4) nothing
    ∷ note 6 (M 1) 4 (op.Grip (static_no 0)) (says.Gripped (peer_no 1) (handle_no 2) Framework 2) None nothing
    ∷ note 7 (M 1) 4 (op.Meet (var 1) Framework 2 (peer_no 1) (handle_no 2)) (says.New (object_no 2)) (Some 6) nothing
    ∷ note 8 (M 1) 5 (op.Line (act.Get (var 2) (var 1) 0)) says.Range None nothing
    ∷ []

-- a peer thread begins once the own sweep has freed the peer, and sweeps once the handle is restored
abbrev pub begun_before_restore : List Noted
begun_before_restore =
    note 0 (M 1) 1 (op.Make User 0) (says.Made (peer_no 1) (handle_no 1)) None nothing
    ∷ note 1 (M 1) 1 (op.Adopt (var 0) kind.Bridge 0 (peer_no 1) (handle_no 1)) (says.M (object_no 1)) (Some 0) nothing
    ∷ note 2 (M 1) 2 (op.Line (act.Drop (var 0))) says.Ok None nothing
    ∷ note 3 C 3 (op.Snap (cycle_no 1)) (says.Snapped 1 (span 0 0)) None (snap_of [] (1 ∷ []) (1 ∷ []))
    ∷ note 4 C 4 (op.Contract (cycle_no 1)) (says.Sccs 1 0) None (contraction_of ((1 ∷ []) ∷ []) [] [])
    ∷ note 5 C 5 (op.Mirror (cycle_no 1)) (says.Refs 0) (Some 3) (references_of [])
    ∷ note 6 C 6 (op.Weaken (handle_no 1)) says.Ok (Some 3) nothing
    ∷ note 7 C 7 op.Begin (says.Mark (marking_no 1)) None nothing
    ∷ note 8 C 8 op.Sweep (says.Swept (marking_no 1) (span 0 1)) None (sweep_of (1 ∷ []))
    ∷ note 9 (P 1) 9 op.Begin (says.Mark (marking_no 2)) None nothing
    ∷ note 10 C 10 (op.Restore (handle_no 1)) says.Cleared None nothing
    ∷ note 11 (P 1) 9 op.Sweep (says.Swept (marking_no 2) (span 1 0)) None (sweep_of [])
    ∷ note 12 C 10 (op.Clear (cycle_no 1)) says.Ok None nothing
    ∷ note 13 C 11 (op.Resolve (cycle_no 1)) (says.Freed (span 0 1))
    (Some 12) (resolution_of (said_cleared ∷ []) (1 ∷ []))
    ∷ []

-- the notes of each make a linked history, and the entries that are steps of the joint machine are a run
pub record RareAnswersHold : Type 0 where
  pub while_open : IsWorked answers_while_open ([] ∷ [])
  pub without_fields : IsWorked framework_twin []
  pub before_restore : IsWorked begun_before_restore ((1 ∷ []) ∷ [] ∷ [])
