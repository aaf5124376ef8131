use Rattle.std.proofs.Common.{◌≡◌, ◌≤◌, length, vec_len, vec_capacity}
use Rattle.array_graphs.specs.Made.{HasNodes}
use Rattle.array_graphs.proofs.graphs.nodes_of.Given as goal

abbrev pub invariant-loop-i : goal.invariant-loop-i
invariant-loop-i l = record { nodes : HasNodes l.kinds l.i l.nodes.items; count : vec_len l.nodes ≡ l.i; room : length l.kinds ≤ vec_capacity l.nodes }
