-- Snapshots, resolutions and sweeps, with the freed rows that are told. (The definitions are the joint model's; only
-- their result is named here.)
use Rattle.std.specs.Prelude.{◌≡◌, ℕ, ◌+◌, ◌≤◌, ◌⊎◌, Bool, false, not, List, [], Option, Some, None, All, Contains}
use Rattle.std.specs.Prelude.{filter, length}
use Rattle.joint_machine.specs.declared.names.Span.{Span}
use Rattle.joint_machine.specs.declared.names.Thread.{Thread}
use Rattle.joint_machine.specs.declared.names.Thread.TheVariants.{C}
use Rattle.joint_machine.specs.declared.events.Reply.TheVariants as says
use Rattle.joint_machine.specs.declared.events.Reply.{Reply}
use Rattle.joint_machine.specs.Components.{Rises}
use Rattle.joint_machine.specs.Cycles.{IsSnapshot, snap_reply, IsResolution, IsOpen}
use Rattle.joint_machine.specs.Heaps.{Heap, IsMade, is_freed, numbered_at}
use Rattle.joint_machine.specs.Histories.{Finished, managed_numbers, peer_numbers, stretch}
use Rattle.joint_machine.specs.Joint.{Joint, JointMarking, IsReached, peer, with_managed}
use Rattle.joint_machine.specs.Managed.{Managed, OpenCycle, with_snapshot, resolved, handle_of, Holds}
use Rattle.joint_machine.specs.Peers.{Peers, peer_of}
use Rattle.joint_machine.specs.Run.{IsKept, JointSnap, IsStored, EndsMarking}
use Rattle.joint_machine.specs.Walks.{Reached}
use Rattle.heap_rules.specs.Tidy.{live_fields}
use Rattle.reachability.specs.Marks.{Leads}
use Rattle.joint_replay.specs.Answers.{given_in}
use Rattle.joint_replay.specs.Plain.{cleaned}

-- a snapshot that frees these rows
pub record SnapsManaged (s : Managed) (k : ℕ) (freed : List ℕ) (reply : Reply) (next : Managed) : Type 0 where
  pub candidates : List ℕ
  pub dead : List ℕ
  pub snapshot : IsSnapshot s k freed candidates dead
  pub replies : reply ≡ snap_reply s freed candidates
  pub state : next ≡ with_snapshot s freed candidates dead

-- a snapshot of the joint machine that frees these rows
pub record SnapsJoint (j : Joint) (k : ℕ) (freed : List ℕ) (reply : Reply) (next : Joint) : Type 0 where
  pub candidates : List ℕ
  pub dead : List ℕ
  pub snap : JointSnap j k freed candidates dead reply next

-- the span names exactly these objects in the history's list, and stands where the next freed ones come
pub record NamesFreed (g : Heap) (h : Finished) (span : Span) (freed : List ℕ) : Type 0 where
  pub first : span.first ≡ length g.freed
  pub count : span.count ≡ length freed
  pub named : managed_numbers (stretch h.freed_managed span) ≡ freed

-- the reply is that of a snapshot that frees these objects and has so many candidates
abbrev pub SaysSnap : Heap → Finished → Reply → List ℕ → ℕ → Type 0
SaysSnap g h (says.Snapped n span) freed candidates = (n ≡ candidates) × NamesFreed g h span freed
SaysSnap g h _ freed candidates = ⊥

-- the reply is that of a resolution that frees these objects
abbrev pub SaysFreed : Heap → Finished → Reply → List ℕ → Type 0
SaysFreed g h (says.Freed span) freed = NamesFreed g h span freed
SaysFreed g h _ freed = ⊥

-- the dead part of an open cycle rises, and its rows and the candidates were made
abbrev pub OwesDead : ℕ → Option OpenCycle → Type 0
OwesDead made None = Unit {0}
OwesDead made (Some c) = Rises c.dead × All (λ m. (1 ≤ m) × (m ≤ made)) c.dead
    × All (λ m. (1 ≤ m) × (m ≤ made)) c.candidates

-- whether an object is kept: it holds a handle whose peer isn't freed
abbrev pub keeps : Managed → Peers → ℕ → Bool
keeps s p m = elim (handle_of s m) [
  | None ↦ false
  | Some h ↦ elim (peer_of p.issued h) [ None ↦ false | Some q ↦ not (is_freed p.heap q) ]
]

-- a kept candidate of a list leads to the row
abbrev pub IsKeptReached : Managed → Peers → List ℕ → ℕ → Type 0
IsKeptReached s p candidates m = Reached (Contains (filter (keeps s p) candidates))
    (Leads (length s.heap.fields + 1) (live_fields (cleaned s.heap))) m

-- what a resolution of cycle k frees
pub record Settles (j : Joint) (k : ℕ) (freed : List ℕ) : Type 0 where
  pub cycle : OpenCycle
  pub open_cycle : IsOpen j.graph.managed k cycle
  pub resolution : IsResolution j.graph.managed cycle.dead (IsKept j cycle) freed
  pub made : All (IsMade j.graph.managed.heap) freed

-- the open cycle is closed, these rows are freed, and each kept candidate holds the handle that its restore gave
abbrev pub closed : Joint → List ℕ → Joint
closed j freed = record (with_managed j (resolved j.graph.managed (given_in j.answers) freed)) { answers = [] }

-- a candidate of the open cycle holds the handle
abbrev pub HasCandidate : Managed → ℕ → Type 0
HasCandidate s h = (c : OpenCycle) × (s.cycle ≡ Some c) × ((m : ℕ) × Contains c.candidates m × Holds s m h)

-- a handle may be restored, on that peer
pub record MayRestore (j : Joint) (h p : ℕ) : Type 0 where
  pub candidate : HasCandidate j.graph.managed h
  pub kept : numbered_at j.graph.removed h ≡ Some false
  pub leads : peer_of j.graph.peers.issued h ≡ Some p

-- the reply is that of a sweep of marking n, and its span stands where the next freed peers come
abbrev pub SaysSwept : Heap → Finished → Reply → ℕ → Type 0
SaysSwept g h (says.Swept j span) n = (j.0 ≡ n) × (span.first ≡ length g.freed)
    × (length (peer_numbers (stretch h.freed_peers span)) ≡ span.count)
SaysSwept g h _ n = ⊥

-- the open marking may free these peers, and the reply says so
pub record MaySweep (j : Joint) (freed : List ℕ) (reply : Reply) : Type 0 where
  pub marking : JointMarking
  pub opened : j.marking ≡ Some marking
  pub rise : Rises freed
  pub stored : All (IsStored marking) freed
  pub unreached : All (λ p. IsReached j (peer p) → ⊥) freed
  pub replies : reply ≡ says.Swept record { 0 = marking.number }
      record { first = length j.graph.peers.heap.freed; count = length freed }

-- a sweep of the open marking by a caller that may end it, which frees these peers
pub record SweepsJoint (j : Joint) (t : Thread) (freed : List ℕ) (reply : Reply) (next : Joint) : Type 0 where
  pub marking : JointMarking
  pub opened : j.marking ≡ Some marking
  pub sweep : EndsMarking j marking t freed reply next

-- the caller may end the open marking
pub record MayEndOpen (j : Joint) (t : Thread) : Type 0 where
  pub marking : JointMarking
  pub opened : j.marking ≡ Some marking
  pub allowed : (t ≡ C) ⊎ (t ≡ marking.by)
