-- The rows of both heaps as the nodes of one graph, which are numbers: with n managed objects, object x is node
-- x and peer p is node n + p. (This project's own; the marking that goes over them is any textbook's.)
use Rattle.std.specs.Prelude.{◌≡◌, ℕ, ◌+◌, ◌<◌, ◌↔◌, ◌⊎◌, Bool, List, [], Some, None, All, Contains, length, slice_get}
use Rattle.joint_machine.specs.declared.names.PNum.{PNum}
use Rattle.joint_machine.specs.Heaps.{Heap, IsLive, HasField}
use Rattle.joint_machine.specs.Joint.{Graph, Row, object, peer, IsJoined, IsJointRoot}
use Rattle.reachability.specs.Marks.{HasMark}

-- how many managed objects were made
abbrev pub objects_in : Graph → ℕ
objects_in g = length g.managed.heap.fields

-- how many nodes there are; node 0 is no row's
abbrev pub node_count : Graph → ℕ
node_count g = length g.managed.heap.fields + length g.peers.heap.fields + 1

-- the node of a row
abbrev pub node_of : Graph → Row → ℕ
node_of g (object x) = x
node_of g (peer p) = objects_in g + p

-- the row was made and isn't freed
abbrev pub IsLiveRow : Graph → Row → Type 0
IsLiveRow g (object x) = IsLive g.managed.heap x
IsLiveRow g (peer p) = IsLive g.peers.heap p

-- all these peers are live
abbrev pub AreLive : Graph → List PNum → Type 0
AreLive g ps = All (λ p. IsLive g.peers.heap p.0) ps

-- the row is a joint root and live
abbrev pub IsLiveRoot : Graph → Row → Type 0
IsLiveRoot g r = IsLiveRow g r × IsJointRoot g r

-- the node is that of a live joint root
pub record IsRootNode (g : Graph) (k : ℕ) : Type 0 where
  pub row : Row
  pub root : IsLiveRoot g row
  pub at : k ≡ node_of g row

-- the nodes to which a node leads; none where there is no such node
abbrev pub targets_at : List (List ℕ) → ℕ → List ℕ
targets_at rows k = elim (slice_get rows k) [ None ↦ [] | Some js ↦ js ]

-- each node leads to nodes
abbrev pub LeadToNodes : List (List ℕ) → Type 0
LeadToNodes rows = (k j : ℕ) → Contains (targets_at rows k) j → j < length rows

-- there are so many nodes, and none leads anywhere
pub record HasNone (count : ℕ) (rows : List (List ℕ)) : Type 0 where
  pub len : length rows ≡ count
  pub none : (k j : ℕ) → Contains (targets_at rows k) j → ⊥

-- `new` are the rows with these further edges, and no others
pub record AddsEdges (edge : ℕ → ℕ → Type 0) (old new : List (List ℕ)) : Type 0 where
  pub len : length new ≡ length old
  pub exact : (k j : ℕ) → Contains (targets_at new k) j ↔ (Contains (targets_at old k) j ⊎ edge k j)

-- the edge from a to b
abbrev pub IsPair : ℕ → ℕ → ℕ → ℕ → Type 0
IsPair a b k j = (k ≡ a) × (j ≡ b)

-- the edges from a to b and back
abbrev pub IsRound : ℕ → ℕ → ℕ → ℕ → Type 0
IsRound a b k j = IsPair a b k j ⊎ IsPair b a k j

-- an edge over a field of object x of a heap, between the nodes of two of its objects
pub record FieldEdge (h : Heap) (node : ℕ → ℕ) (x k j : ℕ) : Type 0 where
  pub target : ℕ
  pub field : HasField h x target
  pub ends : IsPair (node x) (node target) k j

-- an edge over a field of managed object x
abbrev pub ObjectField : Graph → ℕ → ℕ → ℕ → Type 0
ObjectField g x = FieldEdge g.managed.heap (λ y. y) x

-- an edge over a field of peer p
abbrev pub PeerEdge : Graph → ℕ → ℕ → ℕ → Type 0
PeerEdge g p = FieldEdge g.peers.heap (λ q. objects_in g + q) p

-- an edge between managed object x and its twin
pub record TwinEdge (g : Graph) (x k j : ℕ) : Type 0 where
  pub twin : ℕ
  pub joined : IsJoined g x twin
  pub ends : IsRound x (objects_in g + twin) k j

-- an edge that managed object x has a part in
abbrev pub ObjectEdge : Graph → ℕ → ℕ → ℕ → Type 0
ObjectEdge g x k j = ObjectField g x k j ⊎ TwinEdge g x k j

-- an edge that some managed object has a part in
abbrev pub EdgesOfObjects : Graph → ℕ → ℕ → Type 0
EdgesOfObjects g k j = (x : ℕ) × ObjectEdge g x k j

-- an edge over a field of some peer
abbrev pub EdgesOfPeers : Graph → ℕ → ℕ → Type 0
EdgesOfPeers g k j = (p : ℕ) × PeerEdge g p k j

-- the rows have exactly the joint edges
pub record HasEdges (g : Graph) (rows : List (List ℕ)) : Type 0 where
  pub len : length rows ≡ node_count g
  pub exact : (k j : ℕ) → Contains (targets_at rows k) j ↔ (EdgesOfObjects g k j ⊎ EdgesOfPeers g k j)

-- the peer is live and its node isn't marked
abbrev pub IsUnmarkedPeer : Graph → List Bool → ℕ → Type 0
IsUnmarkedPeer g marks p = IsLive g.peers.heap p × (HasMark marks (objects_in g + p) → ⊥)
