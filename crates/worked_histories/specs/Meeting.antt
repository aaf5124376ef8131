-- Eight objects lead to one plain object and it to eight others: a temporary peer stands for it. Of the eight that lead
-- to it one has its peer in a static, so the marking reaches the peers of the other eight through the temporary alone,
-- and the cycle keeps their objects with that one.
use Rattle.std.specs.Prelude.{ℕ, ◌+◌, ◌*◌, List, [], ◌∷◌, ◌++◌, map, flat_map, Contains, Some, None}
use Rattle.joint_machine.specs.declared.names.Thread.TheVariants.{M, C}
use Rattle.joint_machine.specs.declared.names.Sort.TheVariants.{User}
use Rattle.joint_machine.specs.declared.names.Kind.TheVariants as kind
use Rattle.joint_machine.specs.declared.lines.Act.TheVariants as act
use Rattle.joint_machine.specs.declared.events.Op.TheVariants as op
use Rattle.joint_machine.specs.declared.events.Reply.{Reply}
use Rattle.joint_machine.specs.declared.events.Reply.TheVariants as says
use Rattle.joint_machine.specs.Components.{End, node, temporary}
use Rattle.joint_machine.specs.Linked.{Linkage, opening_linkage, MayCome}
use Rattle.joint_machine.specs.Replaying.{replayed}
use Rattle.joint_machine.specs.Told.{nothing, snap_of, contraction_of, references_of, sweep_of, resolution_of, Noted}
use Rattle.joint_machine.specs.Told.{Answer, said_alive, said_cleared}
use Rattle.worked_histories.specs.Moments.{IsWorked}
use Rattle.worked_histories.specs.Notes.{note, var, static_no, object_no, peer_no, handle_no, cycle_no, marking_no}
use Rattle.worked_histories.specs.Notes.{span}

-- eight places
abbrev pub eight : List ℕ
eight = 0 ∷ 1 ∷ 2 ∷ 3 ∷ 4 ∷ 5 ∷ 6 ∷ 7 ∷ []

-- in place i: an object that leads to the plain one, and one that the plain one leads to
abbrev pub leader : ℕ → List Noted
leader i =
    note (3 * i + 1) (M 1) (2 * i + 2) (op.Make User 0) (says.Made (peer_no (i + 1)) (handle_no (i + 1))) None nothing
    ∷ note (3 * i + 2) (M 1) (2 * i + 2) (op.Adopt (var 1) kind.Bridge 1 (peer_no (i + 1)) (handle_no (i + 1)))
    (says.M (object_no (i + 2))) (Some (3 * i + 1)) nothing
    ∷ note (3 * i + 3) (M 1) (2 * i + 3) (op.Line (act.Set (var 1) 0 (Some (var 0)))) says.Ok None nothing
    ∷ []

abbrev pub follower : ℕ → List Noted
follower i =
    note (3 * i + 27) (M 1) (2 * i + 19) (op.Make User 0) (says.Made (peer_no (i + 9)) (handle_no (i + 9))) None nothing
    ∷ note (3 * i + 28) (M 1) (2 * i + 19) (op.Adopt (var 1) kind.Bridge 0 (peer_no (i + 9)) (handle_no (i + 9)))
    (says.M (object_no (i + 10))) (Some (3 * i + 27)) nothing
    ∷ note (3 * i + 29) (M 1) (2 * i + 20) (op.Line (act.Set (var 0) i (Some (var 1)))) says.Ok None nothing
    ∷ []

-- all objects are made and linked, the peer of the last that leads to the plain one comes into the static, and no
-- variable holds them any more
abbrev pub meeting_made : List Noted
meeting_made =
    note 0 (M 1) 1 (op.Line (act.New (var 0) kind.Plain 8)) (says.M (object_no 1)) None nothing
    ∷ flat_map leader eight
    ++ note 25 (M 1) 18 (op.Lend (var 1) (static_no 0)) (says.H (handle_no 8)) None nothing
    ∷ note 26 (M 1) 18 (op.Land (handle_no 8) (static_no 0)) (says.P (peer_no 8)) (Some 25) nothing
    ∷ flat_map follower eight
    ++ note 51 (M 1) 35 (op.Line (act.Drop (var 0))) says.Ok None nothing
    ∷ note 52 (M 1) 36 (op.Line (act.Drop (var 1))) says.Ok None nothing
    ∷ []

-- the candidates
abbrev pub met : List ℕ
met = map (λ i. i + 2) eight ++ map (λ i. i + 10) eight

-- each candidate is a component, and the plain object's class stands behind them; the mirror edges begin or end at its
-- temporary
abbrev pub met_edges : List (End × End)
met_edges = map (λ i. (node (i + 1), temporary 0)) eight ++ map (λ i. (temporary 0, node (i + 9))) eight

-- the cycle up to its marking
abbrev pub meeting_begun : List Noted
meeting_begun =
    note 53 C 37 (op.Snap (cycle_no 1)) (says.Snapped 16 (span 0 0)) None (snap_of [] met (1 ∷ met))
    ∷ note 54 C 37 (op.Contract (cycle_no 1)) (says.Sccs 17 16) None
    (contraction_of (map (λ m. m ∷ []) met) (1 ∷ []) (map (λ i. (i, 16)) eight ++ map (λ i. (16, i + 8)) eight))
    ∷ note 55 C 37 (op.Mirror (cycle_no 1)) (says.Refs 16) (Some 53) (references_of met_edges)
    ∷ map (λ i. note (i + 56) C 37 (op.Weaken (handle_no (i + 1))) says.Ok (Some 53) nothing) eight
    ++ map (λ i. note (i + 64) C 37 (op.Weaken (handle_no (i + 9))) says.Ok (Some 53) nothing) eight
    ++ note 72 C 37 op.Begin (says.Mark (marking_no 1)) None nothing
    ∷ []

-- the seven peers that no static holds are freed; the other nine handles are restored, each with a new number
abbrev pub seven : List ℕ
seven = 0 ∷ 1 ∷ 2 ∷ 3 ∷ 4 ∷ 5 ∷ 6 ∷ []

abbrev pub met_answers : List Answer
met_answers = map (λ i. said_cleared) seven ++ said_alive 17 ∷ map (λ i. said_alive (i + 18)) eight

abbrev pub meeting_kept : List Noted
meeting_kept =
    note 73 C 37 op.Sweep (says.Swept (marking_no 1) (span 0 7)) None (sweep_of (map (λ i. i + 1) seven))
    ∷ map (λ i. note (i + 74) C 37 (op.Restore (handle_no (i + 1))) says.Cleared None nothing) seven
    ++ note 81 C 37 (op.Restore (handle_no 8)) (says.Renewed (handle_no 17)) None nothing
    ∷ map (λ i. note (i + 82) C 37 (op.Restore (handle_no (i + 9))) (says.Renewed (handle_no (i + 18))) None nothing)
    eight
    ++ note 90 C 37 (op.Clear (cycle_no 1)) says.Ok None nothing
    ∷ note 91 C 37 (op.Resolve (cycle_no 1)) (says.Freed (span 0 7))
    (Some 90) (resolution_of met_answers (map (λ i. i + 2) seven))
    ∷ []

-- the whole history
abbrev pub meeting_history : List Noted
meeting_history = meeting_made ++ (meeting_begun ++ meeting_kept)

-- the notes make a linked history, and the entries that are steps of the joint machine are a run, at whose begin those
-- seven peers are unreached
abbrev pub MeetingHolds : Type 0
MeetingHolds = IsWorked meeting_history (map (λ i. i + 1) seven ∷ [])

-- the state before the sweep
abbrev pub before_meeting_sweep : Linkage
before_meeting_sweep = replayed opening_linkage (meeting_made ++ meeting_begun)

-- no sweep may come there that frees a peer which is reached through the temporary alone
abbrev pub TemporaryHolds : Type 0
TemporaryHolds = (freed : List ℕ) (reply : Reply) → Contains freed 9
    → MayCome before_meeting_sweep (note 73 C 37 op.Sweep reply None (sweep_of freed)) → ⊥
