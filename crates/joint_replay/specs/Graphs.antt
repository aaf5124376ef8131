-- The one graph with clean heaps, in which each field that holds a freed object is empty. It has the same edges and the
-- same roots, so the same rows are reached. (This project's own.)
use Rattle.std.specs.Prelude.{◌≡◌, ℕ, ◌⊎◌, Bool, false, List, Option, Some, None}
use Rattle.joint_machine.specs.Heaps.{IsLive, numbered_at}
use Rattle.joint_machine.specs.Joint.{Graph, JointMarking}
use Rattle.joint_machine.specs.Managed.{Managed}
use Rattle.joint_machine.specs.Peers.{Peers, Issued, held, raw, strong}
use Rattle.joint_machine.specs.Run.{IsStored}
use Rattle.reachability.specs.Marks.{HasMark}
use Rattle.joint_replay.specs.Plain.{cleaned}

-- the graph of the three parts of a joint state
abbrev pub parts_graph : Managed → Peers → List Bool → Graph
parts_graph s p removed = record { managed = s; peers = p; removed = removed }

-- the graph with clean heaps
abbrev pub clean_graph : Graph → Graph
clean_graph g = record {
  managed = record g.managed { heap = cleaned g.managed.heap };
  peers = record g.peers { heap = cleaned g.peers.heap };
  removed = g.removed;
}

-- a handle that is issued so is a root by itself: a raw strong one, or a held one that isn't marked as a live object's
abbrev pub IsRootHandle : List Bool → ℕ → Issued → Type 0
IsRootHandle owned h i = ((i.hold ≡ raw) × (i.strength ≡ strong)) ⊎ ((i.hold ≡ held) × (HasMark owned h → ⊥))

-- the handle isn't removed and is a root by itself, and leads to the live peer
pub record IsRooted (p : Peers) (removed owned : List Bool) (h k : ℕ) : Type 0 where
  pub row : Issued
  pub issued : numbered_at p.issued h ≡ Some row
  pub kept : numbered_at removed h ≡ Some false
  pub root : IsRootHandle owned h row
  pub leads : row.peer ≡ k
  pub live : IsLive p.heap k

-- some handle that is a root by itself leads to the live peer
abbrev pub IsRootedIn : Peers → List Bool → List Bool → ℕ → Type 0
IsRootedIn p removed owned k = (h : ℕ) × IsRooted p removed owned h k

-- each peer that the marking may free is live
abbrev pub KeepsStored : Peers → Option JointMarking → Type 0
KeepsStored p None = Unit {0}
KeepsStored p (Some m) = (k : ℕ) → IsStored m k → IsLive p.heap k
