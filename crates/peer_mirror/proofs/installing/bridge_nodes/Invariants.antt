use Rattle.std.proofs.Common.{◌≡◌, ◌≤◌, length, take}
use Rattle.bridge_graph.specs.Handles.{handles_of}
use Rattle.peer_mirror.proofs.installing.bridge_nodes.Given as goal

abbrev pub invariant-loop-i : goal.invariant-loop-i
invariant-loop-i l = record {
  count : l.count ≡ length (handles_of (take l.i l.graph.nodes));
  within : l.count ≤ l.i;
}
