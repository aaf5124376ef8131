use Rattle.std.proofs.Common.{◌≡◌, ◌↔◌, ◌⊎◌, ℕ, length, take}
use Rattle.std.specs.List.{Contains}
use Rattle.bridge_graph.specs.Parts.{NodeLeads}
use Rattle.compare_pass.proofs.turning.turn_row.Given as goal

abbrev pub invariant-loop-y : goal.invariant-loop-y
invariant-loop-y l = record {
  nodes : l.builder.nodes ≡ l.initial.builder.nodes;
  rows : length l.builder.edges ≡ length l.initial.builder.edges;
  edges : (u v : ℕ) → NodeLeads l.builder.edges u v ↔ (NodeLeads l.initial.builder.edges u v ⊎ (Contains (take l.y-index l.row) u × (v ≡ l.x)));
}
