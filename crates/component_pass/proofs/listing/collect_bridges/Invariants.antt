use Rattle.std.proofs.Common.{◌↔◌, ℕ, take}
use Rattle.std.specs.List.{Contains}
use Rattle.bridge_graph.specs.Parts.{IsBridgeNode}
use Rattle.component_pass.proofs.listing.collect_bridges.Given as goal

abbrev pub invariant-loop-y : goal.invariant-loop-y
invariant-loop-y l = (z : ℕ) → Contains l.members.items z ↔ (Contains (take l.y-index l.class) z × IsBridgeNode l.graph.nodes z)
