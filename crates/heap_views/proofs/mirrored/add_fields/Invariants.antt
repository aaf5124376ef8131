-- The edges of the fields so far.
use Rattle.std.proofs.Common.{◌≡◌, ℕ, ◌↔◌, ◌⊎◌, take}
use Rattle.joint_machine.specs.Heaps.{fields_of}
use Rattle.bridge_graph.specs.Parts.{NodeLeads}
use Rattle.heap_views.specs.Mirrored.{HasDead}
use Rattle.heap_views.proofs.mirrored.add_fields.Given as goal

abbrev pub invariant-loop-j : goal.invariant-loop-j
invariant-loop-j l = record {
  nodes : l.builder.nodes ≡ l.fn.builder.nodes;
  edges : (a k : ℕ) → NodeLeads l.builder.edges a k
      ↔ (NodeLeads l.fn.builder.edges a k ⊎ ((a ≡ l.m) × HasDead l.joint.graph.managed (take l.j (fields_of l.joint.graph.managed.heap l.m)) k));
}
