-- The edges of the rows so far.
use Rattle.std.proofs.Common.{◌≡◌, ◌≤◌, ◌+◌, ℕ, ◌↔◌, ◌⊎◌, ◌<◌, take}
use Rattle.joint_machine.specs.Histories.{managed_numbers}
use Rattle.bridge_graph.specs.Parts.{NodeLeads}
use Rattle.managed_heap.specs.Rooms.{fields_in}
use Rattle.managed_heap.specs.Graphs.{HasDeadField}
use Rattle.managed_heap.proofs.graphs.add_edges.Given as goal

abbrev pub invariant-loop-i : goal.invariant-loop-i
invariant-loop-i l = record {
  nodes : l.builder.nodes ≡ l.fn.builder.nodes;
  edges : (a k : ℕ) → NodeLeads l.builder.edges a k ↔ (NodeLeads l.fn.builder.edges a k ⊎ ((a < l.i) × HasDeadField l.heap.heap (managed_numbers l.dead) a k));
  spare : l.fn.builder.spare_edges ≤ l.builder.spare_edges + fields_in l.heap.heap (take l.i (managed_numbers l.dead));
}
