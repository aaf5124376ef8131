-- The joint machine's state, and its one graph that joins managed objects, peers and handles.
-- Believed: the clauses of the program's top call rest on all that stands here.
use Rattle.std.specs.Prelude.{◌≡◌, ℕ, ◌⊎◌, ◌+◌, Bool, false, ◌&&◌, nat_eq, if◌then◌else◌, List, [], ◌∷◌, Option, Some}
use Rattle.std.specs.Prelude.{None}
use Rattle.joint_machine.specs.declared.names.Thread.{Thread}
use Rattle.joint_machine.specs.Heaps.{IsLive, HasField, InSlot, numbered_at, is_freed}
use Rattle.joint_machine.specs.Managed.{Managed, opening_managed, Holds, IsManagedRoot, handle_of}
use Rattle.joint_machine.specs.Peers.{Peers, opening_peers, Issued, held, raw, strong, peer_of, is_held}
use Rattle.joint_machine.specs.Told.{Answer}
use Rattle.joint_machine.specs.Walks.{Reached}

-- what the one graph is made of: the managed objects, the peers, and of each handle issued whether it was removed
pub record Graph : Type 0 where
  pub managed : Managed
  pub peers : Peers
  pub removed : List Bool

-- an open marking: its number, the thread that began it, and the graph at its begin, which says which peers were
-- unfreed and unreached then
pub record JointMarking : Type 0 where
  pub number : ℕ
  pub by : Thread
  pub begun : Graph

-- the graph; for each candidate of the open cycle what its restore answered, or none; the open marking, and how many
-- markings were opened
pub record Joint : Type 0 where
  pub graph : Graph
  pub answers : List (Option Answer)
  pub marking : Option JointMarking
  pub markings : ℕ

-- all lists are empty, and so is each slot
abbrev pub opening : Joint
opening = record {
  graph = record { managed = opening_managed; peers = opening_peers; removed = [] };
  answers = [];
  marking = None;
  markings = 0;
}

-- the state with another managed part
abbrev pub with_managed : Joint → Managed → Joint
with_managed j s = record j { graph = record j.graph { managed = s } }

-- a row of either heap
pub data Row : Type 0 where
  object : ℕ → Row
  peer : ℕ → Row

-- an unfreed managed row and the unfreed peer of the handle that it holds
pub record IsJoined (g : Graph) (m p : ℕ) : Type 0 where
  pub handle : ℕ
  pub holds : Holds g.managed m handle
  pub leads : peer_of g.peers.issued handle ≡ Some p
  pub live : IsLive g.peers.heap p

-- one row leads to the next: over a field of either heap, or from a managed row to its peer or back. A freed
-- row has no edge in or out. (A peer lives as long as managed or native code refers to it, as the
-- Xamarin.Android documentation says.)
abbrev pub JointEdge : Graph → Row → Row → Type 0
JointEdge g (object x) (object y) = HasField g.managed.heap x y
JointEdge g (object x) (peer p) = IsJoined g x p
JointEdge g (peer p) (object x) = IsJoined g x p
JointEdge g (peer p) (peer q) = HasField g.peers.heap p q

-- the handle was issued with that hold on that peer, and isn't removed
pub record IsHandle (g : Graph) (h : ℕ) (i : Issued) : Type 0 where
  pub issued : numbered_at g.peers.issued h ≡ Some i
  pub kept : numbered_at g.removed h ≡ Some false

-- a raw strong handle leads to the peer
pub record IsRawRoot (g : Graph) (p : ℕ) : Type 0 where
  pub handle : ℕ
  pub row : Issued
  pub is_handle : IsHandle g handle row
  pub raw_hold : row.hold ≡ raw
  pub strong_made : row.strength ≡ strong
  pub leads : row.peer ≡ p

-- a held handle that no managed row holds now leads to the peer: one just made, given up and not released, or given by
-- a restore and not yet taken by its row
pub record IsLooseRoot (g : Graph) (p : ℕ) : Type 0 where
  pub handle : ℕ
  pub row : Issued
  pub is_handle : IsHandle g handle row
  pub held_hold : row.hold ≡ held
  pub loose : (m : ℕ) → Holds g.managed m handle → ⊥
  pub leads : row.peer ≡ p

-- a joint root: a row in a filled slot of either heap, or the peer of a raw strong or a loose held handle
abbrev pub IsJointRoot : Graph → Row → Type 0
IsJointRoot g (object x) = IsManagedRoot g.managed x
IsJointRoot g (peer p) = InSlot g.peers.heap p ⊎ IsRawRoot g p ⊎ IsLooseRoot g p

-- a walk over joint edges leads to the row from a joint root
abbrev pub IsReachedIn : Graph → Row → Type 0
IsReachedIn g x = Reached (IsJointRoot g) (JointEdge g) x

-- the row is reached in a state
abbrev pub IsReached : Joint → Row → Type 0
IsReached j x = IsReachedIn j.graph x

-- whether the managed row holds a held handle on the peer
abbrev pub is_twin : Joint → ℕ → ℕ → Bool
is_twin j p m = elim (handle_of j.graph.managed m) [
  | None ↦ false
  | Some h ↦ elim (numbered_at j.graph.peers.issued h) [ None ↦ false | Some i ↦ is_held i.hold && nat_eq i.peer p ]
]

-- the first twin of the peer from number m on, with a list as long as the rows that are left
abbrev pub twin_from : Joint → ℕ → ℕ → List (Option ℕ) → Option ℕ
twin_from j p m [] = None
twin_from j p m (h ∷ hs) = if is_twin j p m then Some m else twin_from j p (m + 1) hs

-- the twin of a peer: the unfreed managed row of the least number that holds a held handle on it
abbrev pub twin_of : Joint → ℕ → Option ℕ
twin_of j p = twin_from j p 1 j.graph.managed.held

-- where a handle leads: to its peer, unless the handle was removed or the peer was freed
abbrev pub joint_target : Joint → ℕ → Option ℕ
joint_target j h = elim (numbered_at j.graph.removed h) [
  | None ↦ None
  | Some gone ↦ if gone then None else elim (peer_of j.graph.peers.issued h)
      [ None ↦ None | Some p ↦ if is_freed j.graph.peers.heap p then None else Some p ]
]
