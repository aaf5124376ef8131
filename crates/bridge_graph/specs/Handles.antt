-- The handles of a part's nodes.
use Rattle.std.specs.Prelude.{ℕ, List, flat_map, Option, slice_get}
use Rattle.std.specs.Option.{option_and_then, option_to_list}
use Rattle.joint_machine.specs.declared.names.HNum.{HNum}
use Rattle.bridge_graph.specs.declared.graph.Node.{Node}

-- the handles of the bridge nodes, in the order of the nodes
abbrev pub handles_of : List Node → List HNum
handles_of nodes = flat_map (λ n. option_to_list n.handle) nodes

-- the handle of the node with that index: None where it is no bridge node, and past the last node
abbrev pub handle_at : List Node → ℕ → Option HNum
handle_at nodes i = option_and_then (λ n. n.handle) (slice_get nodes i)
