-- Runs with one whole cycle, each wrong in one place: a candidate that holds a handle is freed, and what its peer's
-- sweep has to be isn't so; or a cycle is no whole one, or leaves a peer. What refuses each is the part that its law
-- names. No machine has these runs.
use Rattle.std.specs.Prelude.{ℕ, List, [], ◌∷◌, Some, None, false}
use Rattle.joint_machine.specs.declared.names.Thread.TheVariants.{P, C}
use Rattle.joint_machine.specs.declared.events.Op.TheVariants as op
use Rattle.joint_machine.specs.declared.events.Reply.TheVariants as says
use Rattle.joint_machine.specs.Headline.{IsSoundRun, IsCompleteRun}
use Rattle.joint_machine.specs.Joint.{Joint, opening}
use Rattle.joint_machine.specs.Peers.{Issued, held, strong}
use Rattle.joint_machine.specs.Run.{Moment}
use Rattle.joint_machine.specs.Told.{nothing, snap_of, sweep_of, Noted}
use Rattle.worked_histories.specs.Notes.{note, cycle_no, marking_no, span}
use Rattle.worked_histories.specs.Unsound.{begins_one, closed, moment_of, object_named, peer_named, resolves_none}
use Rattle.worked_histories.specs.Unsound.{resolves_two, snaps_nothing, still, sweeps_none, sweeps_two}

-- a held handle on a peer
abbrev pub handle_on : ℕ → Issued
handle_on p = record { peer = p; hold = held; strength = strong }

-- each of two objects holds the handle with its number, on the peer with its number; nothing is named, and cycle 1 is
-- open with object 2 as its candidate
abbrev pub paired : Joint
paired = record still {
  graph = record {
    managed = record still.graph.managed { held = Some 1 ∷ Some 2 ∷ [] };
    peers = record still.graph.peers { issued = handle_on 1 ∷ handle_on 2 ∷ [] };
    removed = false ∷ false ∷ [];
  };
}

-- a moment that leaves its state
abbrev pub at : Joint → Noted → Moment
at j n = moment_of j n j

-- marking 1 frees peer 1, or marking 2 frees none; a peer thread begins marking 1; the snapshot of cycle 2
abbrev pub sweeps_one : Noted
sweeps_one = note 2 C 1 op.Sweep (says.Swept (marking_no 1) (span 0 1)) None (sweep_of (1 ∷ []))

abbrev pub sweeps_second : Noted
sweeps_second = note 2 C 1 op.Sweep (says.Swept (marking_no 2) (span 0 0)) None (sweep_of [])

abbrev pub begins_by_peer : Noted
begins_by_peer = note 1 (P 1) 1 op.Begin (says.Mark (marking_no 1)) None nothing

abbrev pub snaps_second : Noted
snaps_second = note 0 C 1 (op.Snap (cycle_no 2)) (says.Snapped 0 (span 0 0)) None (snap_of [] [] [])

-- object 2 is freed: the sweep frees another peer; or there is none; or it comes after the resolution
abbrev pub another_swept : List Moment
another_swept = at paired begins_one ∷ at paired sweeps_one ∷ at paired resolves_two ∷ []

abbrev pub unswept : List Moment
unswept = at paired begins_one ∷ at paired snaps_nothing ∷ at paired resolves_two ∷ []

abbrev pub swept_late : List Moment
swept_late = at paired begins_one ∷ at paired resolves_two ∷ at paired sweeps_two ∷ []

-- a variable named it at the begin of the marking, or just before the sweep
abbrev pub named_at_begin : List Moment
named_at_begin = at still snaps_nothing ∷ at object_named begins_one
    ∷ at paired sweeps_two ∷ at paired resolves_two ∷ []

abbrev pub named_before_sweep : List Moment
named_before_sweep = at paired begins_one ∷ at object_named sweeps_two ∷ at paired resolves_two ∷ []

-- it was unreached at a begin that comes after the sweep alone; or at one at which its peer was reached
abbrev pub begun_late : List Moment
begun_late = at object_named begins_one ∷ at paired sweeps_two ∷ at paired begins_one ∷ at paired resolves_two ∷ []

abbrev pub peer_named_at_begin : List Moment
peer_named_at_begin = at peer_named begins_one ∷ at object_named begins_one
    ∷ at paired sweeps_two ∷ at paired resolves_two ∷ []

-- peer 2 is freed: no marking was begun before, or one is begun behind the sweep alone
abbrev pub unbegun : List Moment
unbegun = at closed snaps_nothing ∷ at closed sweeps_two ∷ []

abbrev pub begun_behind : List Moment
begun_behind = at closed sweeps_two ∷ at closed begins_one ∷ []

-- none of these runs is sound
pub record AreUnsoundWithPeers : Type 0 where
  pub frees : IsSoundRun another_swept → ⊥
  pub sweeps : IsSoundRun unswept → ⊥
  pub in_time : IsSoundRun swept_late → ⊥
  pub row_at_begin : IsSoundRun named_at_begin → ⊥
  pub row_before_sweep : IsSoundRun named_before_sweep → ⊥
  pub in_order : IsSoundRun begun_late → ⊥
  pub itself : IsSoundRun peer_named_at_begin → ⊥
  pub begun : IsSoundRun unbegun → ⊥
  pub begun_before : IsSoundRun begun_behind → ⊥

-- a cycle over a state in which nothing was made: these four entries in turn
abbrev pub turns : Noted → Noted → Noted → Noted → List Moment
turns a b c d = at opening a ∷ at opening b ∷ at opening c ∷ at opening d ∷ []

-- two peers are made between the snapshot and the begin, and nothing reaches them: they are left
abbrev pub made_between : List Moment
made_between = at opening snaps_nothing ∷ at closed begins_one ∷ at closed sweeps_none ∷ at closed resolves_none ∷ []

-- none of these is complete: peers are left; the snapshot is another cycle's, the begin a peer thread's, or the sweep
-- another marking's; or one of them comes in another's place
pub record AreIncompleteCycles : Type 0 where
  pub peers : IsCompleteRun made_between → ⊥
  pub snaps : IsCompleteRun (turns snaps_second begins_one sweeps_none resolves_none) → ⊥
  pub begins : IsCompleteRun (turns snaps_nothing begins_by_peer sweeps_none resolves_none) → ⊥
  pub sweeps : IsCompleteRun (turns snaps_nothing begins_one sweeps_second resolves_none) → ⊥
  pub begins_later : IsCompleteRun (turns begins_one snaps_nothing sweeps_none resolves_none) → ⊥
  pub sweeps_later : IsCompleteRun (turns snaps_nothing sweeps_none begins_one resolves_none) → ⊥
  pub ends_later : IsCompleteRun (turns snaps_nothing begins_one resolves_none sweeps_none) → ⊥
