-- The edges of the rows so far.
use Rattle.std.proofs.Common.{◌≡◌, ℕ, ◌↔◌, take}
use Rattle.std.specs.Prelude.{Contains}
use Rattle.joint_machine.specs.Cycles.{DeadEdge}
use Rattle.joint_replay.specs.Plain.{dead_of}
use Rattle.bridge_graph.specs.Parts.{NodeLeads}
use Rattle.heap_views.proofs.mirrored.add_rows.Given as goal

abbrev pub invariant-loop-m : goal.invariant-loop-m
invariant-loop-m l = record {
  nodes : l.builder.nodes ≡ l.fn.builder.nodes;
  edges : (a k : ℕ) → NodeLeads l.builder.edges a k
      ↔ (Contains (take l.m-index (dead_of l.joint.graph.managed)) a × DeadEdge l.joint.graph.managed (dead_of l.joint.graph.managed) a k);
}
