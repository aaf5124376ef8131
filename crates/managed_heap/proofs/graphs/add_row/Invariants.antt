-- The edges of the fields so far.
use Rattle.std.proofs.Common.{◌≡◌, ◌≤◌, ◌+◌, ℕ, ◌↔◌, ◌⊎◌, take}
use Rattle.bridge_graph.specs.Parts.{NodeLeads}
use Rattle.managed_heap.specs.Graphs.{HasPlaced}
use Rattle.managed_heap.proofs.graphs.add_row.Given as goal

abbrev pub invariant-loop-field : goal.invariant-loop-field
invariant-loop-field l = record {
  nodes : l.builder.nodes ≡ l.fn.builder.nodes;
  edges : (a k : ℕ) → NodeLeads l.builder.edges a k ↔ (NodeLeads l.fn.builder.edges a k ⊎ ((a ≡ l.i) × HasPlaced l.places (take l.field-index l.held) k));
  spare : l.fn.builder.spare_edges ≤ l.builder.spare_edges + l.field-index;
}
