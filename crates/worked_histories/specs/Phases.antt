-- Two bridge objects, of which the first has the second in a field, with cycles of eight phases: the first cycle finds
-- both reached, and the second frees both with their peers.
use Rattle.std.specs.Prelude.{◌≡◌, ℕ, List, [], ◌∷◌, ◌++◌, take, map, Contains, Some, None}
use Rattle.joint_machine.specs.declared.names.Thread.TheVariants.{M, C}
use Rattle.joint_machine.specs.declared.names.Sort.TheVariants.{User}
use Rattle.joint_machine.specs.declared.names.Kind.TheVariants as kind
use Rattle.joint_machine.specs.declared.lines.Act.TheVariants as act
use Rattle.joint_machine.specs.declared.events.Op.TheVariants as op
use Rattle.joint_machine.specs.declared.events.Reply.{Reply}
use Rattle.joint_machine.specs.declared.events.Reply.TheVariants as says
use Rattle.joint_machine.specs.Components.{End, between_nodes}
use Rattle.joint_machine.specs.Linked.{Linkage, opening_linkage, MayCome}
use Rattle.joint_machine.specs.Replaying.{replayed}
use Rattle.joint_machine.specs.Told.{nothing, snap_of, contraction_of, references_of, sweep_of, resolution_of, Noted}
use Rattle.joint_machine.specs.Told.{said_cleared, Answer}
use Rattle.worked_histories.specs.Notes.{linking, note, var, object_no, peer_no, handle_no, cycle_no, marking_no, span}

-- both objects are made, the first gets the second into its field, and the second's variable is emptied
abbrev pub two_made : List Noted
two_made =
    note 0 (M 1) 1 (op.Make User 0) (says.Made (peer_no 1) (handle_no 1)) None nothing
    ∷ note 1 (M 1) 1 (op.Adopt (var 0) kind.Bridge 1 (peer_no 1) (handle_no 1)) (says.M (object_no 1)) (Some 0) nothing
    ∷ note 2 (M 1) 2 (op.Make User 0) (says.Made (peer_no 2) (handle_no 2)) None nothing
    ∷ note 3 (M 1) 2 (op.Adopt (var 1) kind.Bridge 1 (peer_no 2) (handle_no 2)) (says.M (object_no 2)) (Some 2) nothing
    ∷ note 4 (M 1) 3 (op.Line (act.Set (var 0) 0 (Some (var 1)))) says.Ok None nothing
    ∷ note 5 (M 1) 4 (op.Line (act.Drop (var 1))) says.Ok None nothing
    ∷ []

-- the first cycle, while the first object's variable holds it: it has no candidates
abbrev pub reached_cycle : List Noted
reached_cycle =
    note 6 C 5 (op.Snap (cycle_no 1)) (says.Snapped 0 (span 0 0)) None (snap_of [] [] [])
    ∷ note 7 C 5 (op.Contract (cycle_no 1)) (says.Sccs 0 0) None (contraction_of [] [] [])
    ∷ note 8 C 5 (op.Mirror (cycle_no 1)) (says.Refs 0) (Some 6) (references_of [])
    ∷ note 9 C 5 op.Begin (says.Mark (marking_no 1)) None nothing
    ∷ note 10 C 5 op.Sweep (says.Swept (marking_no 1) (span 0 0)) None (sweep_of [])
    ∷ note 11 C 5 (op.Clear (cycle_no 1)) says.Ok None nothing
    ∷ note 12 C 5 (op.Resolve (cycle_no 1)) (says.Freed (span 0 0)) (Some 11) (resolution_of [] [])
    ∷ []

-- its variable is emptied, and the second cycle takes both objects as candidates
abbrev pub dead_snap : List Noted
dead_snap =
    note 13 (M 1) 6 (op.Line (act.Drop (var 0))) says.Ok None nothing
    ∷ note 14 C 7 (op.Snap (cycle_no 2)) (says.Snapped 2 (span 0 0)) None (snap_of [] (1 ∷ 2 ∷ []) (1 ∷ 2 ∷ []))
    ∷ note 15 C 7 (op.Contract (cycle_no 2)) (says.Sccs 2 1) None
    (contraction_of ((1 ∷ []) ∷ (2 ∷ []) ∷ []) [] ((0, 1) ∷ []))
    ∷ []

-- both handles are weakened, and the marking has begun
abbrev pub weakened_both : List Noted
weakened_both =
    note 16 C 7 (op.Mirror (cycle_no 2)) (says.Refs 1) (Some 14) (linking ((1, 2) ∷ []))
    ∷ note 17 C 7 (op.Weaken (handle_no 1)) says.Ok (Some 14) nothing
    ∷ note 18 C 7 (op.Weaken (handle_no 2)) says.Ok (Some 14) nothing
    ∷ note 19 C 7 op.Begin (says.Mark (marking_no 2)) None nothing
    ∷ []

-- the sweep of that marking frees both peers
abbrev pub swept_both : Noted
swept_both = note 20 C 7 op.Sweep (says.Swept (marking_no 2) (span 0 2)) None (sweep_of (1 ∷ 2 ∷ []))

-- both peers are freed, and the first handle is restored
abbrev pub restored_first : List Noted
restored_first = swept_both ∷ note 21 C 7 (op.Restore (handle_no 1)) says.Cleared None nothing ∷ []

-- so is the second handle, and the mirror is cleared
abbrev pub restored_last : List Noted
restored_last =
    note 22 C 7 (op.Restore (handle_no 2)) says.Cleared None nothing
    ∷ note 23 C 7 (op.Clear (cycle_no 2)) says.Ok None nothing
    ∷ []

-- the phases on the peer heap
abbrev pub dead_peers : List Noted
dead_peers = weakened_both ++ (restored_first ++ restored_last)

-- both objects are freed
abbrev pub dead_end : List Noted
dead_end = note 24 C 7 (op.Resolve (cycle_no 2)) (says.Freed (span 0 2))
    (Some 23) (resolution_of (said_cleared ∷ said_cleared ∷ []) (1 ∷ 2 ∷ [])) ∷ []

-- the whole history
abbrev pub two_phased : List Noted
two_phased = two_made ++ (reached_cycle ++ (dead_snap ++ (dead_peers ++ dead_end)))

-- the state before the set, once both objects are made, after the first cycle, before the second one's mirror, and
-- before its resolution
abbrev pub before_set : Linkage
before_set = replayed opening_linkage (take 4 two_made)

abbrev pub making_phased : Linkage
making_phased = replayed opening_linkage two_made

abbrev pub after_reached : Linkage
after_reached = replayed making_phased reached_cycle

abbrev pub before_mirror : Linkage
before_mirror = replayed after_reached dead_snap

abbrev pub before_resolve : Linkage
before_resolve = replayed before_mirror dead_peers

-- the set that may come there answers ok, and nothing else
abbrev pub SetsField : Type 0
SetsField = (reply : Reply) → MayCome before_set
    (note 4 (M 1) 3 (op.Line (act.Set (var 0) 0 (Some (var 1)))) reply None nothing) → reply ≡ says.Ok

-- no snap that frees the first object may come after the making
abbrev pub KeepsReached : Type 0
KeepsReached = (freed candidates dead : List ℕ) (reply : Reply) → Contains freed 1
    → MayCome making_phased (note 6 C 5 (op.Snap (cycle_no 1)) reply None (snap_of freed candidates dead)) → ⊥

-- a mirror that may come there adds the one reference, and no other list
abbrev pub MirrorsBoth : Type 0
MirrorsBoth = (refs : List (End × End)) (reply : Reply)
    → MayCome before_mirror (note 16 C 7 (op.Mirror (cycle_no 2)) reply (Some 14) (references_of refs))
    → refs ≡ map between_nodes ((1, 2) ∷ [])

-- a resolution that may come there keeps neither candidate, and frees both
abbrev pub ResolvesBoth : Type 0
ResolvesBoth = (alive : List Answer) (freed : List ℕ) (reply : Reply)
    → MayCome before_resolve (note 24 C 7 (op.Resolve (cycle_no 2)) reply (Some 23) (resolution_of alive freed))
    → (alive ≡ said_cleared ∷ said_cleared ∷ []) × Contains freed 1 × Contains freed 2
