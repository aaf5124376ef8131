use Rattle.std.proofs.Common.{◌≡◌, drop}
use Rattle.bridge_graph.specs.Handles.{handles_of}
use Rattle.run_check.proofs.cycles.bridge_node.Given as goal

abbrev pub invariant-loop-i : goal.invariant-loop-i
invariant-loop-i l = record {
  rest : handles_of (drop l.i l.graph.nodes) ≡ handles_of (drop l.initial.from l.graph.nodes);
}
