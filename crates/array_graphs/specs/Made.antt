-- The graph of the arrays, as it is made.
use Rattle.std.specs.Prelude.{◌≡◌, ◌-◌, ℕ, ◌+◌, ◌<◌, ◌⊎◌, ◌↔◌, List, length, Option, Some, None, false}
use Rattle.std.specs.Prelude.{if◌then◌else◌, nat_eq, slice_get, slice_index}
use Rattle.joint_machine.specs.Components.{Rises}
use Rattle.joint_machine.specs.Numbers.{u32_max}
use Rattle.joint_machine.specs.declared.names.HNum.{HNum}
use Rattle.bridge_graph.specs.declared.graph.Node.{Node}
use Rattle.bridge_graph.specs.Parts.{IsBridgeNode, NodeLeads, numbers_of}

-- a made graph has those bridge nodes and edges
pub record IsMade (bridge : ℕ → Type 0) (edge : ℕ → ℕ → Type 0)
    (nodes : List Node) (rows : List (List ℕ)) : Type 0 where
  pub bridges : (x : ℕ) → IsBridgeNode nodes x ↔ bridge x
  pub leads : (x y : ℕ) → NodeLeads rows x y ↔ edge x y

-- so many nodes, or so many edges, can't be numbered
abbrev pub IsTooLong : ℕ → ℕ → Type 0
IsTooLong nodes edges = (u32_max - 1 < nodes) ⊎ (u32_max < edges)

abbrev pub handle_by : ℕ → ℕ → Option HNum
handle_by kind number = if nat_eq kind 0 then None else Some record { 0 = number }

-- the node with that index
abbrev pub node_at : List ℕ → ℕ → Node
node_at kinds x = record {
  number = record { 0 = x + 1 };
  handle = handle_by (slice_index kinds x) (x + 1);
  opaque = false;
}

-- the nodes of the first n kinds, whose numbers rise
pub record HasNodes (kinds : List ℕ) (n : ℕ) (nodes : List Node) : Type 0 where
  pub count : length nodes ≡ n
  pub each : (x : ℕ) → x < n → slice_get nodes x ≡ Some (node_at kinds x)
  pub rising : Rises (numbers_of nodes)
