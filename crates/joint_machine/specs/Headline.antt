-- What is freed, and when: a run is sound and complete. These are the two clauses of the headline on freeing, over the
-- whole run and the one joint graph.
-- Believed: the clauses of the program's top call rest on all that stands here.
use Rattle.std.specs.Prelude.{◌≡◌, ℕ, ◌<◌, ◌≤◌, List, Contains, Some, slice_get}
use Rattle.joint_machine.specs.declared.names.Thread.TheVariants.{C}
use Rattle.joint_machine.specs.declared.names.Span.{Span}
use Rattle.joint_machine.specs.declared.events.Op.TheVariants as op
use Rattle.joint_machine.specs.declared.events.Reply.TheVariants as says
use Rattle.joint_machine.specs.Heaps.{IsMade}
use Rattle.joint_machine.specs.Joint.{Row, object, peer, IsReached}
use Rattle.joint_machine.specs.Managed.{OpenCycle, Holds}
use Rattle.joint_machine.specs.Peers.{peer_of}
use Rattle.joint_machine.specs.Places.{At}
use Rattle.joint_machine.specs.Run.{Moment}
use Rattle.joint_machine.specs.Told.{snap_of, sweep_of, resolution_of, Answer}

-- the entry at place i of the run begins marking j
abbrev pub BeginsAt : List Moment → ℕ → ℕ → Type 0
BeginsAt run i j = At run i (λ m. (m.noted.entry.made.op ≡ op.Begin)
    × (m.noted.entry.made.reply ≡ says.Mark record { 0 = j }))

-- the driver begins marking j there
abbrev pub DriverBeginsAt : List Moment → ℕ → ℕ → Type 0
DriverBeginsAt run i j = At run i (λ m. (m.noted.entry.made.caller ≡ C) × (m.noted.entry.made.op ≡ op.Begin)
    × (m.noted.entry.made.reply ≡ says.Mark record { 0 = j }))

-- the entry at place i sweeps marking j and frees these peers
abbrev pub SweepsAt : List Moment → ℕ → ℕ → List ℕ → Type 0
SweepsAt run i j freed = At run i (λ m. (m.noted.entry.made.op ≡ op.Sweep) × (span : Span)
    × (m.noted.entry.made.reply ≡ says.Swept record { 0 = j } span) × (m.noted.told ≡ sweep_of freed))

-- the entry at place i is the snapshot of cycle k, with what it frees and its candidates
abbrev pub SnapsAt : List Moment → ℕ → ℕ → List ℕ → List ℕ → Type 0
SnapsAt run i k freed candidates = At run i (λ m. (m.noted.entry.made.op ≡ op.Snap record { 0 = k })
    × (dead : List ℕ) × (m.noted.told ≡ snap_of freed candidates dead))

-- the entry at place i resolves cycle k and frees these rows
abbrev pub ResolvesAt : List Moment → ℕ → ℕ → List ℕ → Type 0
ResolvesAt run i k freed = At run i (λ m. (m.noted.entry.made.op ≡ op.Resolve record { 0 = k })
    × (alive : List Answer) × (m.noted.told ≡ resolution_of alive freed))

-- the row isn't reached in the state at the entry in place i, that is after it
abbrev pub IsUnreachedAt : List Moment → ℕ → Row → Type 0
IsUnreachedAt run i x = (m : Moment) → slice_get run i ≡ Some m → IsReached m.after x → ⊥

-- the row isn't reached in the state just before the entry in place i
abbrev pub IsUnreachedBefore : List Moment → ℕ → Row → Type 0
IsUnreachedBefore run i x = (m : Moment) → slice_get run i ≡ Some m → IsReached m.before x → ⊥

-- the row isn't reached in the state at any entry from one place to another
abbrev pub IsUnreachedThroughout : List Moment → ℕ → ℕ → Row → Type 0
IsUnreachedThroughout run from to x = (i : ℕ) → from ≤ i → i ≤ to → IsUnreachedAt run i x

-- the row was unreached at the begin of a marking and just before its sweep
pub record WasUnreached (run : List Moment) (begin sweep : ℕ) (x : Row) : Type 0 where
  pub at_begin : IsUnreachedAt run begin x
  pub before_sweep : IsUnreachedBefore run sweep x

-- the peer was freed by the sweep of some marking before place `limit`, at whose begin, and just before which, the
-- row x was unreached
pub record IsSweptFor (run : List Moment) (limit p : ℕ) (x : Row) : Type 0 where
  pub marking : ℕ
  pub begin : ℕ
  pub sweep : ℕ
  pub freed : List ℕ
  pub begins : BeginsAt run begin marking
  pub sweeps : SweepsAt run sweep marking freed
  pub in_order : begin < sweep
  pub in_time : sweep < limit
  pub frees : Contains freed p
  pub row : WasUnreached run begin sweep x
  pub itself : WasUnreached run begin sweep (peer p)

-- the candidate held a handle, just before place i, whose peer was freed by a sweep at whose begin, and just before
-- which, neither of them was reached
abbrev pub IsFreedWithPeer : List Moment → ℕ → ℕ → Type 0
IsFreedWithPeer run i m = At run i (λ x. (handle : ℕ) × Holds x.before.graph.managed m handle
    × (p : ℕ) × (peer_of x.before.graph.peers.issued handle ≡ Some p) × IsSweptFor run i p (object m))

-- the row is a candidate of the cycle that is open just before place i
abbrev pub IsCandidateBefore : List Moment → ℕ → ℕ → Type 0
IsCandidateBefore run i m = At run i (λ x. (cycle : OpenCycle)
    × (x.before.graph.managed.cycle ≡ Some cycle) × Contains cycle.candidates m)

-- sound: nothing is freed too early
pub record IsSoundRun (run : List Moment) : Type 0 where
  -- each candidate that a resolution frees held a handle whose peer a sweep freed, both unreached at its begin and just
  -- before it
  pub candidates : (i k m : ℕ) (freed : List ℕ) → ResolvesAt run i k freed
      → Contains freed m → IsCandidateBefore run i m → IsFreedWithPeer run i m
  -- each peer that a sweep frees was unreached at the begin of the marking and just before the sweep
  pub peers : (i j p : ℕ) (freed : List ℕ) → SweepsAt run i j freed → Contains freed p
      → (begin : ℕ) × (begin < i) × BeginsAt run begin j × WasUnreached run begin i (peer p)
  -- no managed row that a snapshot or a resolution frees was reached in the state before
  pub snapped : (i k m : ℕ) (freed candidates : List ℕ) → SnapsAt run i k freed candidates
      → Contains freed m → IsUnreachedBefore run i (object m)
  pub resolved : (i k m : ℕ) (freed : List ℕ) → ResolvesAt run i k freed
      → Contains freed m → IsUnreachedBefore run i (object m)

-- the peer was made by the state just before place i
abbrev pub IsMadeBefore : List Moment → ℕ → ℕ → Type 0
IsMadeBefore run i p = At run i (λ m. IsMade m.before.graph.peers.heap p)

-- the peer is freed in the state at place i
abbrev pub IsPeerFreedAt : List Moment → ℕ → ℕ → Type 0
IsPeerFreedAt run i p = At run i (λ m. Contains m.after.graph.peers.heap.freed p)

-- the peer isn't reached in the state at any entry from one place to another at which it exists
abbrev pub IsPeerUnreachedThroughout : List Moment → ℕ → ℕ → ℕ → Type 0
IsPeerUnreachedThroughout run from to p = (i : ℕ) → from ≤ i → i ≤ to → (m : Moment)
    → slice_get run i ≡ Some m → IsMade m.after.graph.peers.heap p → IsReached m.after (peer p) → ⊥

-- a cycle that ends in the resolution at place `end` frees what was unreached throughout: it has its snapshot and its
-- own marking, which the thread c begins between the two; each of its candidates that is unreached throughout from the
-- snapshot to the sweep of that marking is freed by the resolution, and each peer that existed at that begin and is
-- unreached throughout the same entries at which it exists is freed at the latest by that sweep
pub record IsCompleteCycle (run : List Moment) (end k : ℕ) (resolved : List ℕ) : Type 0 where
  pub snap : ℕ
  pub begin : ℕ
  pub sweep : ℕ
  pub marking : ℕ
  pub freed : List ℕ
  pub candidates : List ℕ
  pub swept : List ℕ
  pub snaps : SnapsAt run snap k freed candidates
  pub begins : DriverBeginsAt run begin marking
  pub sweeps : SweepsAt run sweep marking swept
  pub begins_later : snap < begin
  pub sweeps_later : begin < sweep
  pub ends_later : sweep < end
  pub objects : (m : ℕ) → Contains candidates m → IsUnreachedThroughout run snap sweep (object m) → Contains resolved m
  pub peers : (p : ℕ) → IsMadeBefore run begin p
      → IsPeerUnreachedThroughout run snap sweep p → IsPeerFreedAt run sweep p

-- complete: each cycle that is resolved leaves no candidate that was unreached from its snapshot to the sweep of its
-- own marking, and no peer of that marking's begin that was. (A linked history has one begin of the driver between a
-- snapshot and its end; in another run some such begin is meant.)
abbrev pub IsCompleteRun : List Moment → Type 0
IsCompleteRun run = (i k : ℕ) (freed : List ℕ) → ResolvesAt run i k freed → IsCompleteCycle run i k freed
