use Rattle.std.proofs.Common.{◌≡◌, ℕ, length}
use Rattle.bridge_graph.specs.Parts.{NodeLeads}
use Rattle.compare_pass.specs.Turned.{AreTurnedNodes}
use Rattle.compare_pass.proofs.turning.turn_nodes.Given as goal

abbrev pub invariant-loop-x : goal.invariant-loop-x
invariant-loop-x l = record {
  nodes : AreTurnedNodes l.graph.nodes l.x l.builder.nodes;
  rows : length l.builder.edges ≡ length l.builder.nodes;
  edges : (u v : ℕ) → NodeLeads l.builder.edges u v → ⊥;
}
