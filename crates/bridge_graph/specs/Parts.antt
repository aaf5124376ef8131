-- The dead part as a value: nodes with rising managed numbers, and for each node the indexes of the nodes
-- that its references lead to, in the order in which they were added.
use Rattle.std.specs.Prelude.{◌≡◌, ℕ, ◌<◌, Bool, true, IsSome, List, [], length, map, Contains, slice_index_or}
use Rattle.std.specs.Prelude.{slice_get, Some}
use Rattle.joint_machine.specs.Components.{Rises}
use Rattle.bridge_graph.specs.declared.graph.Node.{Node}
use Rattle.joint_machine.specs.Numbers.{u32_max}

-- the nodes and, for each of them, where its edges lead
pub record Part : Type 0 where
  pub nodes : List Node
  pub edges : List (List ℕ)

-- a part that is being built, and for how many more nodes and edges there is room
pub record Building : Type 0 where
  pub nodes : List Node
  pub edges : List (List ℕ)
  pub spare_nodes : ℕ
  pub spare_edges : ℕ

-- where the edges of the node with that index lead; nowhere past the last node
abbrev pub row_at : List (List ℕ) → ℕ → List ℕ
row_at edges i = slice_index_or edges i []

-- whether the node with that index is opaque; so is everything past the last node
abbrev pub opaque_at : List Node → ℕ → Bool
opaque_at nodes i = slice_index_or (map (λ n. n.opaque) nodes) i true

-- the managed numbers of the nodes
abbrev pub numbers_of : List Node → List ℕ
numbers_of nodes = map (λ n. n.number.0) nodes

-- an edge leads from x to y
abbrev pub NodeLeads : List (List ℕ) → ℕ → ℕ → Type 0
NodeLeads edges x y = Contains (row_at edges x) y

-- x is a bridge node: it has a handle
pub record IsBridgeNode (nodes : List Node) (x : ℕ) : Type 0 where
  pub node : Node
  pub there : slice_get nodes x ≡ Some node
  pub held : IsSome node.handle

-- what every part keeps: a row for each node, edges to nodes of the part, rising numbers, opaque nodes
-- without an edge, and fewer than 4,294,967,295 nodes
pub record IsPart (nodes : List Node) (edges : List (List ℕ)) : Type 0 where
  pub rows : length edges ≡ length nodes
  pub in_range : (x y : ℕ) → NodeLeads edges x y → y < length nodes
  pub rising : Rises (numbers_of nodes)
  pub opaque_rows : (x : ℕ) → opaque_at nodes x ≡ true → row_at edges x ≡ []
  pub few : length nodes < u32_max

-- there is a node with that index, and P holds of it
abbrev pub HasNode : List Node → ℕ → (Node → Type 0) → Type 0
HasNode nodes i P = (node : Node) × (slice_get nodes i ≡ Some node) × P node
