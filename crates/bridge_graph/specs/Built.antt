-- What the flat lists of a part that is being built keep.
use Rattle.std.specs.Prelude.{◌≡◌, ◌^◌, ℕ, ◌<◌, ◌≤◌, List, [], length, All, false}
use Rattle.joint_machine.specs.Components.{Rises}
use Rattle.bridge_graph.specs.declared.graph.Node.{Node}
use Rattle.bridge_graph.specs.declared.packing.Link.{Link}
use Rattle.bridge_graph.specs.Parts.{numbers_of, opaque_at}
use Rattle.joint_machine.specs.Numbers.{u32_max}

-- the link joins two nodes, and the first is not opaque
pub record Joins (nodes : List Node) (l : Link) : Type 0 where
  pub from : l.from < length nodes
  pub to : l.to < length nodes
  pub transparent : opaque_at nodes l.from ≡ false

-- the numbers rise, the links join nodes, no node is linked up yet, and there is room for the targets
pub record IsBuilding (nodes : List Node) (heads : List ℕ)
    (links : List Link) (follows targets : List ℕ) (space : ℕ) : Type 0 where
  pub rising : Rises (numbers_of nodes)
  pub few : length nodes < u32_max
  pub firsts : length heads ≡ length nodes
  pub none : All (λ f. f ≡ u32_max) heads
  pub joins : All (Joins nodes) links
  pub most : length links < 2 ^ 32
  pub nexts : length follows ≡ length links
  pub empty : targets ≡ []
  pub room : length links ≤ space
