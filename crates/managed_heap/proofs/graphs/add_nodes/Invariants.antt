-- The nodes of the rows so far.
use Rattle.std.proofs.Common.{◌≡◌, ◌≤◌, ◌+◌, ℕ, [], map, take}
use Rattle.bridge_graph.specs.Parts.{row_at}
use Rattle.managed_heap.specs.declared.rows.Header.{Header}
use Rattle.managed_heap.specs.Graphs.{node_of}
use Rattle.managed_heap.proofs.graphs.add_nodes.Given as goal

abbrev pub invariant-loop-m : goal.invariant-loop-m
invariant-loop-m l = record {
  nodes : l.builder.nodes ≡ map (node_of l.heap.heap (map (λ (i : Header). i.handle) l.headers)) (take l.m-index l.dead);
  edges : (a : ℕ) → row_at l.builder.edges a ≡ [];
  spare : l.fn.builder.spare_nodes ≤ l.builder.spare_nodes + l.m-index;
  kept : l.builder.spare_edges ≡ l.fn.builder.spare_edges;
}
