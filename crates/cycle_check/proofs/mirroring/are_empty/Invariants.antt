use Rattle.std.proofs.Common.{◌≡◌, ℕ, ◌<◌, ◌≤◌, length}
use Rattle.bridge_graph.specs.Packing.{packed_row}
use Rattle.cycle_check.proofs.mirroring.are_empty.Given as goal

abbrev pub invariant-loop-c : goal.invariant-loop-c
invariant-loop-c l = (d : ℕ) → l.from ≤ d → d < l.c → length (packed_row l.starts l.members d) ≡ 0
