use Rattle.std.proofs.Common.{◌≡◌, ◌↔◌, ◌<◌, ℕ, length}
use Rattle.bridge_graph.specs.Parts.{NodeLeads}
use Rattle.compare_pass.proofs.turning.turn_edges.Given as goal

abbrev pub invariant-loop-x : goal.invariant-loop-x
invariant-loop-x l = record {
  nodes : l.builder.nodes ≡ l.initial.builder.nodes;
  rows : length l.builder.edges ≡ length l.initial.builder.edges;
  edges : (u v : ℕ) → NodeLeads l.builder.edges u v ↔ (NodeLeads l.graph.edges v u × (v < l.x));
}
