-- Runs that aren't sound, and one that isn't complete, each for one reason alone: what refuses it is the conjunct that
-- its law names. No machine has these runs; they stand here so that a definition which lost one of its conjuncts, or
-- spoke of some objects only, is found.
use Rattle.std.specs.Prelude.{ℕ, List, [], ◌∷◌, Option, Some, None}
use Rattle.joint_machine.specs.declared.names.Thread.TheVariants.{C}
use Rattle.joint_machine.specs.declared.events.Op.TheVariants as op
use Rattle.joint_machine.specs.declared.events.Reply.TheVariants as says
use Rattle.joint_machine.specs.Headline.{IsSoundRun, IsCompleteRun}
use Rattle.joint_machine.specs.Heaps.{Heap}
use Rattle.joint_machine.specs.Joint.{Joint}
use Rattle.joint_machine.specs.Managed.{OpenCycle, opening_managed}
use Rattle.joint_machine.specs.Peers.{opening_peers}
use Rattle.joint_machine.specs.Run.{Moment}
use Rattle.joint_machine.specs.Told.{nothing, snap_of, sweep_of, resolution_of, Noted, said_cleared}
use Rattle.worked_histories.specs.Notes.{note, cycle_no, marking_no, span}

-- a heap of two objects without fields; a variable names the given one, or none
abbrev pub heap_naming : Option ℕ → Heap
heap_naming x = record { fields = [] ∷ [] ∷ []; freed = []; vars = x ∷ []; statics = [] }

-- a state of two objects and two peers without handles, with the object and the peer that are named, and the open cycle
abbrev pub state_of : Option ℕ → Option ℕ → Option OpenCycle → Joint
state_of m p cycle = record {
  graph = record {
    managed = record opening_managed { heap = heap_naming m; held = None ∷ None ∷ []; pins = []; cycle = cycle };
    peers = record opening_peers { heap = heap_naming p };
    removed = [];
  };
  answers = [];
  marking = None;
  markings = 0;
}

-- nothing is named, and cycle 1 is open with object 2 as its candidate; or none is open
abbrev pub still : Joint
still = state_of None None (Some record { number = 1; candidates = 2 ∷ []; dead = 2 ∷ [] })

abbrev pub closed : Joint
closed = state_of None None None

-- object 2 is named, or peer 2
abbrev pub object_named : Joint
object_named = state_of (Some 2) None None

abbrev pub peer_named : Joint
peer_named = state_of None (Some 2) None

-- a moment with that entry
abbrev pub moment_of : Joint → Noted → Joint → Moment
moment_of before n after = record { before = before; noted = n; after = after }

-- the events of cycle 1: a snapshot that takes object 2 as its candidate, or none, or frees it; the own marking, whose
-- sweep frees peer 2 or none; a resolution that frees object 2 or none
abbrev pub snaps_two : Noted
snaps_two = note 0 C 1 (op.Snap (cycle_no 1)) (says.Snapped 1 (span 0 0)) None (snap_of [] (2 ∷ []) (2 ∷ []))

abbrev pub snaps_nothing : Noted
snaps_nothing = note 0 C 1 (op.Snap (cycle_no 1)) (says.Snapped 0 (span 0 0)) None (snap_of [] [] [])

abbrev pub snap_frees_two : Noted
snap_frees_two = note 0 C 1 (op.Snap (cycle_no 1)) (says.Snapped 0 (span 0 1)) None (snap_of (2 ∷ []) [] [])

abbrev pub begins_one : Noted
begins_one = note 1 C 1 op.Begin (says.Mark (marking_no 1)) None nothing

abbrev pub sweeps_none : Noted
sweeps_none = note 2 C 1 op.Sweep (says.Swept (marking_no 1) (span 0 0)) None (sweep_of [])

abbrev pub sweeps_two : Noted
sweeps_two = note 2 C 1 op.Sweep (says.Swept (marking_no 1) (span 0 1)) None (sweep_of (2 ∷ []))

abbrev pub resolves_none : Noted
resolves_none = note 3 C 1 (op.Resolve (cycle_no 1)) (says.Freed (span 0 0)) None (resolution_of (said_cleared ∷ []) [])

abbrev pub resolves_two : Noted
resolves_two = note 3 C 1 (op.Resolve (cycle_no 1))
    (says.Freed (span 0 1)) None (resolution_of (said_cleared ∷ []) (2 ∷ []))

-- a candidate is freed, and no sweep freed its peer
abbrev pub freed_without_sweep : List Moment
freed_without_sweep = moment_of still resolves_two closed ∷ []

-- a peer is freed, and no marking was begun; or it was reached at the begin of the marking; or just before the sweep
abbrev pub swept_without_begin : List Moment
swept_without_begin = moment_of closed sweeps_two closed ∷ []

abbrev pub reached_at_begin : List Moment
reached_at_begin = moment_of peer_named begins_one peer_named ∷ moment_of closed sweeps_two closed ∷ []

abbrev pub reached_before_sweep : List Moment
reached_before_sweep = moment_of closed begins_one closed ∷ moment_of peer_named sweeps_two peer_named ∷ []

-- a snapshot, or a resolution, frees an object that a variable names
abbrev pub snapped_while_reached : List Moment
snapped_while_reached = moment_of object_named snap_frees_two object_named ∷ []

abbrev pub resolved_while_reached : List Moment
resolved_while_reached = moment_of object_named resolves_two object_named ∷ []

-- a whole cycle that frees nothing, over one state
abbrev pub cycle_run : Joint → Noted → List Moment
cycle_run j snaps = moment_of j snaps j ∷ moment_of j begins_one
    j ∷ moment_of j sweeps_none j ∷ moment_of j resolves_none j ∷ []

-- it leaves its candidate, which nothing reached
abbrev pub leaves_candidate : List Moment
leaves_candidate = cycle_run still snaps_two

-- with no candidate it leaves two peers, which nothing reached
abbrev pub leaves_peers : List Moment
leaves_peers = cycle_run closed snaps_nothing

-- a resolution without its cycle
abbrev pub resolved_alone : List Moment
resolved_alone = moment_of still resolves_none closed ∷ []

-- none of these runs is sound
pub record AreUnsound : Type 0 where
  pub candidates : IsSoundRun freed_without_sweep → ⊥
  pub begun : IsSoundRun swept_without_begin → ⊥
  pub at_begin : IsSoundRun reached_at_begin → ⊥
  pub before_sweep : IsSoundRun reached_before_sweep → ⊥
  pub snapped : IsSoundRun snapped_while_reached → ⊥
  pub resolved : IsSoundRun resolved_while_reached → ⊥

-- none of these is complete
pub record AreIncomplete : Type 0 where
  pub objects : IsCompleteRun leaves_candidate → ⊥
  pub peers : IsCompleteRun leaves_peers → ⊥
  pub alone : IsCompleteRun resolved_alone → ⊥
