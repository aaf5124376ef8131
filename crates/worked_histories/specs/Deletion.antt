-- A peer that was in a field when a marking began stays to its sweep, though the field is emptied meanwhile.
use Rattle.std.specs.Prelude.{ℕ, List, [], ◌∷◌, ◌++◌, Contains, Some, None}
use Rattle.joint_machine.specs.declared.names.Thread.TheVariants.{P}
use Rattle.joint_machine.specs.declared.lines.Act.TheVariants as act
use Rattle.joint_machine.specs.declared.events.Op.TheVariants as op
use Rattle.joint_machine.specs.declared.events.Reply.{Reply}
use Rattle.joint_machine.specs.declared.events.Reply.TheVariants as says
use Rattle.joint_machine.specs.Linked.{Linkage, opening_linkage, MayCome}
use Rattle.joint_machine.specs.Replaying.{replayed}
use Rattle.joint_machine.specs.Told.{nothing, slice_of, sweep_of, Noted}
use Rattle.worked_histories.specs.Notes.{note, var, peer_no, marking_no, span}

-- two peers, of which the first has the second in its field, a marking that begins then, and the field emptied
abbrev pub emptied_field : List Noted
emptied_field =
    note 0 (P 1) 1 (op.Line (act.NewPeer (var 0) 1)) (says.P (peer_no 1)) None nothing
    ∷ note 1 (P 1) 2 (op.Line (act.NewPeer (var 1) 0)) (says.P (peer_no 2)) None nothing
    ∷ note 2 (P 1) 3 (op.Line (act.Set (var 0) 0 (Some (var 1)))) says.Ok None nothing
    ∷ note 3 (P 1) 4 (op.Line (act.Drop (var 1))) says.Ok None nothing
    ∷ note 4 (P 1) 5 op.Begin (says.Mark (marking_no 1)) None nothing
    ∷ note 5 (P 1) 6 (op.Line (act.Get (var 2) (var 0) 0)) (says.P (peer_no 2)) None nothing
    ∷ note 6 (P 1) 7 (op.Line (act.Set (var 0) 0 None)) says.Ok None nothing
    ∷ []

-- two slices, of which the first leaves a peer to do
abbrev pub two_slices : List Noted
two_slices =
    note 7 (P 1) 8 (op.Line (act.Slice 1)) says.More None (slice_of (1 ∷ 2 ∷ []))
    ∷ note 8 (P 1) 9 (op.Line (act.Slice 9)) says.Done None (slice_of (1 ∷ 2 ∷ []))
    ∷ []

-- the sweep frees nothing
abbrev pub empty_sweep : List Noted
empty_sweep = note 9 (P 1) 10 op.Sweep (says.Swept (marking_no 1) (span 0 0)) None (sweep_of []) ∷ []

-- the whole history
abbrev pub deletion : List Noted
deletion = emptied_field ++ (two_slices ++ empty_sweep)

-- the state before the slices, and before the sweep
abbrev pub before_slices : Linkage
before_slices = replayed opening_linkage emptied_field

abbrev pub before_sweep : Linkage
before_sweep = replayed before_slices two_slices

-- no sweep that frees the second peer may come there
abbrev pub KeepsDeleted : Type 0
KeepsDeleted = (freed : List ℕ) (reply : Reply) → Contains freed 2
    → MayCome before_sweep (note 9 (P 1) 10 op.Sweep reply None (sweep_of freed)) → ⊥
