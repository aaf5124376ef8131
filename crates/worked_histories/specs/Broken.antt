-- What no lawful history has, shown where the histories of before would have it: a mirror that is cleared before the
-- last restore, a sweep that takes a weak handle for a root, and one that frees a peer that a weak name gave back.
use Rattle.std.specs.Prelude.{ℕ, List, [], ◌∷◌, ◌++◌, Contains, Some, None}
use Rattle.joint_machine.specs.declared.names.Thread.TheVariants.{M, P, C}
use Rattle.joint_machine.specs.declared.names.Sort.TheVariants.{User}
use Rattle.joint_machine.specs.declared.names.Kind.TheVariants as kind
use Rattle.joint_machine.specs.declared.lines.Act.TheVariants as act
use Rattle.joint_machine.specs.declared.events.Op.TheVariants as op
use Rattle.joint_machine.specs.declared.events.Reply.{Reply}
use Rattle.joint_machine.specs.declared.events.Reply.TheVariants as says
use Rattle.joint_machine.specs.Linked.{Linkage, opening_linkage, MayCome}
use Rattle.joint_machine.specs.Replaying.{AllMayCome, replayed}
use Rattle.joint_machine.specs.PeerReplay.{MayClear}
use Rattle.joint_machine.specs.Told.{Told, nothing, snap_of, contraction_of, references_of, sweep_of, Noted}
use Rattle.worked_histories.specs.Notes.{note, var, static_no, name_no, object_no, peer_no, handle_no, cycle_no}
use Rattle.worked_histories.specs.Notes.{marking_no, span}
use Rattle.worked_histories.specs.Phases.{two_made, reached_cycle, dead_snap, weakened_both, swept_both, restored_first}
use Rattle.worked_histories.specs.Phases.{restored_last}

-- the history of two linked objects until its own sweep, and until the last restore
abbrev pub until_own_sweep : List Noted
until_own_sweep = two_made ++ (reached_cycle ++ (dead_snap ++ weakened_both))

abbrev pub until_last_restore : List Noted
until_last_restore = until_own_sweep ++ restored_first

abbrev pub before_own_sweep : Linkage
before_own_sweep = replayed opening_linkage until_own_sweep

abbrev pub before_last_restore : Linkage
before_last_restore = replayed opening_linkage until_last_restore

-- each of these entries may come, then a sweep that frees both peers may, and none that doesn't: a weak handle is no
-- root
pub record SweepsUnderWeak : Type 0 where
  pub lawful : AllMayCome opening_linkage until_own_sweep
  pub comes : MayCome before_own_sweep swept_both
  pub both : (freed : List ℕ) (reply : Reply)
      → MayCome before_own_sweep (note 20 C 7 op.Sweep reply None (sweep_of freed))
      → Contains freed 1 × Contains freed 2

-- each of these entries may come, and then the mirror isn't cleared: the driver's order has a restore left, and the
-- peers' own list a weakened handle that isn't restored; after the last restore it is cleared
pub record ClearsLast : Type 0 where
  pub lawful : AllMayCome opening_linkage until_last_restore
  pub not_cleared : (reply : Reply) (told : Told)
      → MayCome before_last_restore (note 22 C 7 (op.Clear (cycle_no 2)) reply None told) → ⊥
  pub not_by_peers : MayClear before_last_restore.peer 2 → ⊥
  pub then_cleared : AllMayCome before_last_restore restored_last

-- a candidate whose peer has a weak name; its handle is weakened, and its cycle's marking has begun
abbrev pub weakly_named : List Noted
weakly_named =
    note 0 (M 1) 1 (op.Make User 0) (says.Made (peer_no 1) (handle_no 1)) None nothing
    ∷ note 1 (M 1) 1 (op.Adopt (var 0) kind.Bridge 0 (peer_no 1) (handle_no 1)) (says.M (object_no 1)) (Some 0) nothing
    ∷ note 2 (M 1) 2 (op.Lend (var 0) (static_no 0)) (says.H (handle_no 1)) None nothing
    ∷ note 3 (M 1) 2 (op.Land (handle_no 1) (static_no 0)) (says.P (peer_no 1)) (Some 2) nothing
    ∷ note 4 (P 1) 3 (op.Line (act.Load (var 0) (static_no 0))) (says.P (peer_no 1)) None nothing
    ∷ note 5 (P 1) 4 (op.Line (act.WGlobal (name_no 0) (var 0))) (says.H (handle_no 2)) None nothing
    ∷ note 6 (P 1) 5 (op.Line (act.Drop (var 0))) says.Ok None nothing
    ∷ note 7 (P 1) 6 (op.Line (act.Store (static_no 0) None)) says.Ok None nothing
    ∷ note 8 (M 1) 7 (op.Line (act.Drop (var 0))) says.Ok None nothing
    ∷ note 9 C 8 (op.Snap (cycle_no 1)) (says.Snapped 1 (span 0 0)) None (snap_of [] (1 ∷ []) (1 ∷ []))
    ∷ note 10 C 9 (op.Contract (cycle_no 1)) (says.Sccs 1 0) None (contraction_of ((1 ∷ []) ∷ []) [] [])
    ∷ note 11 C 10 (op.Mirror (cycle_no 1)) (says.Refs 0) (Some 9) (references_of [])
    ∷ note 12 C 11 (op.Weaken (handle_no 1)) says.Ok (Some 9) nothing
    ∷ note 13 C 12 op.Begin (says.Mark (marking_no 1)) None nothing
    ∷ []

-- then the weak name gives the peer back, and no slot keeps it
abbrev pub given_back : List Noted
given_back =
    note 14 (P 1) 13 (op.Line (act.WRead (var 1) (name_no 0))) (says.P (peer_no 1)) None nothing
    ∷ note 15 (P 1) 14 (op.Line (act.Drop (var 1))) says.Ok None nothing
    ∷ []

abbrev pub promoted : List Noted
promoted = weakly_named ++ given_back

abbrev pub after_promotion : Linkage
after_promotion = replayed opening_linkage promoted

-- each of these entries may come, and then no sweep that frees the peer
pub record KeepsPromoted : Type 0 where
  pub lawful : AllMayCome opening_linkage promoted
  pub kept : (freed : List ℕ) (reply : Reply) → Contains freed 1
      → MayCome after_promotion (note 16 C 15 op.Sweep reply None (sweep_of freed)) → ⊥
