-- The strongly connected classes of a graph, as a label for each node.
use Rattle.std.specs.Prelude.{◌≡◌, ◌↔◌, ℕ, ◌<◌, ◌≤◌, List, length, All, Contains, slice_index}
use Rattle.joint_machine.specs.Walks.{Mutual}
use Rattle.bridge_graph.specs.Parts.{NodeLeads, row_at}

-- two nodes have the same label exactly where each reaches the other; labels are below the number of nodes
pub record AreClasses (edges : List (List ℕ)) (count : ℕ) (labels : List ℕ) : Type 0 where
  pub whole : length labels ≡ count
  pub small : All (λ l. l < count) labels
  pub exact : (x y : ℕ) → x < count → y < count
      → (slice_index labels x ≡ slice_index labels y) ↔ Mutual (NodeLeads edges) x y

-- the classes are listed, the one with label c in row c, so that edges lead only to a row itself and to those before it
pub record AreInOrder (edges : List (List ℕ)) (count : ℕ) (labels : List ℕ) (rows : List (List ℕ)) : Type 0 where
  pub few : length rows ≤ count
  pub labelled : (x : ℕ) → x < count → slice_index labels x < length rows
  pub members : (c x : ℕ) → Contains (row_at rows c) x ↔ ((x < count) × (slice_index labels x ≡ c))
  pub backwards : (x y : ℕ) → NodeLeads edges x y → slice_index labels y ≤ slice_index labels x
