-- Two bridge objects with two plain ones between them, of which the first one has a peer in a static.
use Rattle.std.specs.Prelude.{◌≡◌, ℕ, List, [], ◌∷◌, ◌++◌, map, Contains, Some, None}
use Rattle.joint_machine.specs.declared.names.Thread.TheVariants.{M, C}
use Rattle.joint_machine.specs.declared.names.Sort.TheVariants.{User, Framework}
use Rattle.joint_machine.specs.declared.names.Kind.TheVariants as kind
use Rattle.joint_machine.specs.declared.lines.Act.TheVariants as act
use Rattle.joint_machine.specs.declared.events.Op.TheVariants as op
use Rattle.joint_machine.specs.declared.events.Reply.{Reply}
use Rattle.joint_machine.specs.declared.events.Reply.TheVariants as says
use Rattle.joint_machine.specs.Components.{End, between_nodes}
use Rattle.joint_machine.specs.Linked.{Linkage, opening_linkage, MayCome}
use Rattle.joint_machine.specs.Replaying.{AllMayCome, replayed}
use Rattle.joint_machine.specs.PeerReplay.{SweepAllows}
use Rattle.joint_machine.specs.Told.{nothing, snap_of, contraction_of, references_of, sweep_of, resolution_of, Noted}
use Rattle.joint_machine.specs.Told.{said_alive}
use Rattle.worked_histories.specs.Moments.{IsWorked}
use Rattle.worked_histories.specs.Notes.{linking, note, var, static_no, object_no, peer_no, handle_no, cycle_no}
use Rattle.worked_histories.specs.Notes.{marking_no, span}

-- all objects are made and linked, the first peer comes into the static, no variable holds them any more, and the cycle
-- has found its candidates
abbrev pub plain_contracted : List Noted
plain_contracted =
    note 0 (M 1) 1 (op.Make User 0) (says.Made (peer_no 1) (handle_no 1)) None nothing
    ∷ note 1 (M 1) 1 (op.Adopt (var 0) kind.Bridge 1 (peer_no 1) (handle_no 1)) (says.M (object_no 1)) (Some 0) nothing
    ∷ note 2 (M 1) 2 (op.Line (act.New (var 1) kind.Plain 1)) (says.M (object_no 2)) None nothing
    ∷ note 3 (M 1) 3 (op.Line (act.New (var 2) kind.Plain 1)) (says.M (object_no 3)) None nothing
    ∷ note 4 (M 1) 4 (op.Make Framework 0) (says.Made (peer_no 2) (handle_no 2)) None nothing
    ∷ note 5 (M 1) 4 (op.Adopt (var 3) kind.LeafBridge 0 (peer_no 2) (handle_no 2))
    (says.M (object_no 4)) (Some 4) nothing
    ∷ note 6 (M 1) 5 (op.Line (act.Set (var 0) 0 (Some (var 1)))) says.Ok None nothing
    ∷ note 7 (M 1) 6 (op.Line (act.Set (var 1) 0 (Some (var 2)))) says.Ok None nothing
    ∷ note 8 (M 1) 7 (op.Line (act.Set (var 2) 0 (Some (var 3)))) says.Ok None nothing
    ∷ note 9 (M 1) 8 (op.Lend (var 0) (static_no 0)) (says.H (handle_no 1)) None nothing
    ∷ note 10 (M 1) 8 (op.Land (handle_no 1) (static_no 0)) (says.P (peer_no 1)) (Some 9) nothing
    ∷ note 11 (M 1) 9 (op.Line (act.Drop (var 0))) says.Ok None nothing
    ∷ note 12 (M 1) 10 (op.Line (act.Drop (var 1))) says.Ok None nothing
    ∷ note 13 (M 1) 11 (op.Line (act.Drop (var 2))) says.Ok None nothing
    ∷ note 14 (M 1) 12 (op.Line (act.Drop (var 3))) says.Ok None nothing
    ∷ note 15 C 13 (op.Snap (cycle_no 1)) (says.Snapped 2 (span 0 0)) None
    (snap_of [] (1 ∷ 4 ∷ []) (1 ∷ 2 ∷ 3 ∷ 4 ∷ []))
    ∷ note 16 C 13 (op.Contract (cycle_no 1)) (says.Sccs 2 1) None
    (contraction_of ((1 ∷ []) ∷ (4 ∷ []) ∷ []) [] ((0, 1) ∷ []))
    ∷ []

-- the mirror adds the one reference
abbrev pub plain_mirrored : Noted
plain_mirrored = note 17 C 13 (op.Mirror (cycle_no 1)) (says.Refs 1) (Some 15) (linking ((1, 2) ∷ []))

-- both handles are weakened, and the marking has begun
abbrev pub plain_weakened : List Noted
plain_weakened =
    note 18 C 13 (op.Weaken (handle_no 1)) says.Ok (Some 15) nothing
    ∷ note 19 C 13 (op.Weaken (handle_no 2)) says.Ok (Some 15) nothing
    ∷ note 20 C 13 op.Begin (says.Mark (marking_no 1)) None nothing
    ∷ []

-- nothing is freed, and both handles are restored
abbrev pub plain_kept : List Noted
plain_kept =
    note 21 C 13 op.Sweep (says.Swept (marking_no 1) (span 0 0)) None (sweep_of [])
    ∷ note 22 C 13 (op.Restore (handle_no 1)) (says.Renewed (handle_no 3)) None nothing
    ∷ note 23 C 13 (op.Restore (handle_no 2)) (says.Renewed (handle_no 4)) None nothing
    ∷ note 24 C 13 (op.Clear (cycle_no 1)) says.Ok None nothing
    ∷ note 25 C 13 (op.Resolve (cycle_no 1)) (says.Freed (span 0 0))
    (Some 24) (resolution_of ((said_alive 3) ∷ (said_alive 4) ∷ []) [])
    ∷ []

-- the whole history
abbrev pub plain_between : List Noted
plain_between = plain_contracted ++ (plain_mirrored ∷ (plain_weakened ++ plain_kept))

-- the notes make a linked history, and the entries that are steps of the joint machine are a run
abbrev pub PlainBetweenHolds : Type 0
PlainBetweenHolds = IsWorked plain_between ([] ∷ [])

-- the state before the mirror, and before the sweep
abbrev pub before_plain_mirror : Linkage
before_plain_mirror = replayed opening_linkage plain_contracted

abbrev pub before_plain_sweep : Linkage
before_plain_sweep = replayed before_plain_mirror (plain_mirrored ∷ plain_weakened)

-- the state before the sweep if the mirror had left the reference out
abbrev pub before_bare_sweep : Linkage
before_bare_sweep = replayed before_plain_mirror
    (note 17 C 13 (op.Mirror (cycle_no 1)) (says.Refs 0) (Some 15) (references_of []) ∷ plain_weakened)

-- a mirror that may come adds the one reference, and then no sweep that frees the second peer may come; without the
-- reference the peers' own list asks for exactly that sweep
pub record MirrorHoldsSecond : Type 0 where
  pub lawful : AllMayCome opening_linkage (plain_contracted ++ (plain_mirrored ∷ plain_weakened))
  pub mirrored : (refs : List (End × End)) (reply : Reply)
      → MayCome before_plain_mirror (note 17 C 13 (op.Mirror (cycle_no 1)) reply (Some 15) (references_of refs))
      → refs ≡ map between_nodes ((1, 2) ∷ [])
  pub kept : (freed : List ℕ) (reply : Reply) → Contains freed 2
      → MayCome before_plain_sweep (note 21 C 13 op.Sweep reply None (sweep_of freed)) → ⊥
  pub freed_without : SweepAllows before_bare_sweep.peer before_bare_sweep.peer.marking C (sweep_of (2 ∷ []))
