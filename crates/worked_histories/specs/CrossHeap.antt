-- A cycle across both heaps: one managed object has another in a field, and the peer of the second has the peer of the
-- first. Nothing else holds them, and a bridge cycle frees all four.
use Rattle.std.specs.Prelude.{List, [], ◌∷◌, ◌++◌, Some, None}
use Rattle.joint_machine.specs.declared.names.Thread.TheVariants.{M, P, C}
use Rattle.joint_machine.specs.declared.names.Sort.TheVariants.{User}
use Rattle.joint_machine.specs.declared.names.Kind.TheVariants as kind
use Rattle.joint_machine.specs.declared.lines.Act.TheVariants as act
use Rattle.joint_machine.specs.declared.events.Op.TheVariants as op
use Rattle.joint_machine.specs.declared.events.Reply.TheVariants as says
use Rattle.joint_machine.specs.Linked.{Linkage, opening_linkage}
use Rattle.joint_machine.specs.Replaying.{replayed}
use Rattle.joint_machine.specs.Told.{nothing, snap_of, contraction_of, sweep_of, resolution_of, Noted, said_cleared}
use Rattle.worked_histories.specs.Notes.{linking, note, var, static_no, object_no, peer_no, handle_no, cycle_no}
use Rattle.worked_histories.specs.Notes.{marking_no, span}

-- both objects are made and linked, and passed to two statics of the peer heap
abbrev pub passed_on : List Noted
passed_on =
    note 0 (M 1) 1 (op.Make User 1) (says.Made (peer_no 1) (handle_no 1)) None nothing
    ∷ note 1 (M 1) 1 (op.Adopt (var 0) kind.Bridge 1 (peer_no 1) (handle_no 1)) (says.M (object_no 1)) (Some 0) nothing
    ∷ note 2 (M 1) 2 (op.Make User 1) (says.Made (peer_no 2) (handle_no 2)) None nothing
    ∷ note 3 (M 1) 2 (op.Adopt (var 1) kind.Bridge 1 (peer_no 2) (handle_no 2)) (says.M (object_no 2)) (Some 2) nothing
    ∷ note 4 (M 1) 3 (op.Line (act.Set (var 0) 0 (Some (var 1)))) says.Ok None nothing
    ∷ note 5 (M 1) 4 (op.Lend (var 0) (static_no 0)) (says.H (handle_no 1)) None nothing
    ∷ note 6 (M 1) 4 (op.Land (handle_no 1) (static_no 0)) (says.P (peer_no 1)) (Some 5) nothing
    ∷ note 7 (M 1) 5 (op.Lend (var 1) (static_no 1)) (says.H (handle_no 2)) None nothing
    ∷ note 8 (M 1) 5 (op.Land (handle_no 2) (static_no 1)) (says.P (peer_no 2)) (Some 7) nothing
    ∷ []

-- a peer thread links the peers the other way round, and everything lets go
abbrev pub let_go : List Noted
let_go =
    note 9 (P 1) 6 (op.Line (act.Load (var 0) (static_no 0))) (says.P (peer_no 1)) None nothing
    ∷ note 10 (P 1) 7 (op.Line (act.Load (var 1) (static_no 1))) (says.P (peer_no 2)) None nothing
    ∷ note 11 (P 1) 8 (op.Line (act.Set (var 1) 0 (Some (var 0)))) says.Ok None nothing
    ∷ note 12 (P 1) 9 (op.Line (act.Drop (var 0))) says.Ok None nothing
    ∷ note 13 (P 1) 10 (op.Line (act.Drop (var 1))) says.Ok None nothing
    ∷ note 14 (P 1) 11 (op.Line (act.Store (static_no 0) None)) says.Ok None nothing
    ∷ note 15 (P 1) 12 (op.Line (act.Store (static_no 1) None)) says.Ok None nothing
    ∷ note 16 (M 1) 13 (op.Line (act.Drop (var 0))) says.Ok None nothing
    ∷ note 17 (M 1) 14 (op.Line (act.Drop (var 1))) says.Ok None nothing
    ∷ []

-- the bridge cycle
abbrev pub collected : List Noted
collected =
    note 18 C 15 (op.Snap (cycle_no 1)) (says.Snapped 2 (span 0 0)) None (snap_of [] (1 ∷ 2 ∷ []) (1 ∷ 2 ∷ []))
    ∷ note 19 C 15 (op.Contract (cycle_no 1)) (says.Sccs 2 1) None
    (contraction_of ((1 ∷ []) ∷ (2 ∷ []) ∷ []) [] ((0, 1) ∷ []))
    ∷ note 20 C 15 (op.Mirror (cycle_no 1)) (says.Refs 1) (Some 18) (linking ((1, 2) ∷ []))
    ∷ note 21 C 15 (op.Weaken (handle_no 1)) says.Ok (Some 18) nothing
    ∷ note 22 C 15 (op.Weaken (handle_no 2)) says.Ok (Some 18) nothing
    ∷ note 23 C 15 op.Begin (says.Mark (marking_no 1)) None nothing
    ∷ note 24 C 15 op.Sweep (says.Swept (marking_no 1) (span 0 2)) None (sweep_of (1 ∷ 2 ∷ []))
    ∷ note 25 C 15 (op.Restore (handle_no 1)) says.Cleared None nothing
    ∷ note 26 C 15 (op.Restore (handle_no 2)) says.Cleared None nothing
    ∷ note 27 C 15 (op.Clear (cycle_no 1)) says.Ok None nothing
    ∷ note 28 C 15 (op.Resolve (cycle_no 1)) (says.Freed (span 0 2))
    (Some 27) (resolution_of (said_cleared ∷ said_cleared ∷ []) (1 ∷ 2 ∷ []))
    ∷ []

-- the whole history
abbrev pub cross_heap_cycle : List Noted
cross_heap_cycle = passed_on ++ (let_go ++ collected)

-- the state once the peers are in the statics
abbrev pub once_passed : Linkage
once_passed = replayed opening_linkage passed_on
