-- The strongly connected classes of a graph, as a label for each node.
use Rattle.std.specs.Prelude.{◌≡◌, ◌↔◌, ℕ, ◌<◌, List, length, All, slice_index}
use Rattle.joint_machine.specs.Walks.{Mutual}
use Rattle.bridge_graph.specs.Parts.{NodeLeads}

-- two nodes have the same label exactly where each reaches the other; labels are below the number of nodes
pub record AreClasses (edges : List (List ℕ)) (count : ℕ) (labels : List ℕ) : Type 0 where
  pub whole : length labels ≡ count
  pub small : All (λ l. l < count) labels
  pub exact : (x y : ℕ) → x < count → y < count
      → (slice_index labels x ≡ slice_index labels y) ↔ Mutual (NodeLeads edges) x y
