-- Which peers are never freed: that of an object that is no candidate of an open cycle, and one that was reached since
-- the begin of the sweep's marking.
-- Believed: the clauses of the program's top call rest on all that stands here.
use Rattle.std.specs.Prelude.{◌≡◌, ℕ, ◌<◌, ◌≤◌, List, Contains, Some, slice_get}
use Rattle.joint_machine.specs.Headline.{SweepsAt, BeginsAt, IsUnreachedAt}
use Rattle.joint_machine.specs.Heaps.{IsLive}
use Rattle.joint_machine.specs.Joint.{Joint, peer}
use Rattle.joint_machine.specs.Managed.{Holds, candidates_of}
use Rattle.joint_machine.specs.Peers.{peer_of}
use Rattle.joint_machine.specs.Run.{Moment}

-- each unfreed managed object that holds a handle, and is no candidate of an open cycle, has an unfreed peer
abbrev pub HeldPeersLive : Joint → Type 0
HeldPeersLive j = (m h : ℕ) → Holds j.graph.managed m h → (Contains (candidates_of j.graph.managed) m → ⊥)
    → (p : ℕ) × (peer_of j.graph.peers.issued h ≡ Some p) × IsLive j.graph.peers.heap p

-- so it is at every state of the run
abbrev pub KeepsHeldPeers : List Moment → Type 0
KeepsHeldPeers run = (i : ℕ) (x : Moment) → slice_get run i ≡ Some x → HeldPeersLive x.after

-- each peer that a sweep frees was reached at no state from the begin of its marking to just before it
abbrev pub SparesReached : List Moment → Type 0
SparesReached run = (i j p : ℕ) (freed : List ℕ) → SweepsAt run i j freed → Contains freed p → (begin : ℕ)
    × (begin < i) × BeginsAt run begin j × ((k : ℕ) → begin ≤ k → k < i → IsUnreachedAt run k (peer p))
