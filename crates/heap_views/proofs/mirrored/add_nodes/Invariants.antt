-- The nodes of the numbers so far, without edges.
use Rattle.std.proofs.Common.{◌≡◌, ℕ, [], map}
use Rattle.std.specs.List.{range_with_len}
use Rattle.bridge_graph.specs.Parts.{row_at}
use Rattle.heap_views.specs.Mirrored.{number_node}
use Rattle.heap_views.proofs.mirrored.add_nodes.Given as goal

abbrev pub invariant-loop-m : goal.invariant-loop-m
invariant-loop-m l = record {
  nodes : l.builder.nodes ≡ map (number_node l.joint.graph.managed) (range_with_len 0 l.m);
  edges : (a : ℕ) → row_at l.builder.edges a ≡ [];
}
