-- The same nodes with all edges turned round.
use Rattle.std.specs.Prelude.{◌≡◌, ◌↔◌, ℕ, ◌<◌, false, List, length, take}
use Rattle.bridge_graph.specs.declared.graph.Node.{Node}
use Rattle.bridge_graph.specs.Parts.{NodeLeads, numbers_of, opaque_at}

-- as many nodes, and each edge turned round
pub record IsTurned (nodes : ℕ) (edges : List (List ℕ)) (size : ℕ) (turned : List (List ℕ)) : Type 0 where
  pub count : size ≡ nodes
  pub leads : (x y : ℕ) → NodeLeads turned x y ↔ NodeLeads edges y x

-- the first n nodes, none of them opaque
pub record AreTurnedNodes (nodes : List Node) (n : ℕ) (back : List Node) : Type 0 where
  pub count : length back ≡ n
  pub numbers : numbers_of back ≡ take n (numbers_of nodes)
  pub clear : (x : ℕ) → x < length back → opaque_at back x ≡ false
