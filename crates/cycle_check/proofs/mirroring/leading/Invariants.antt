use Rattle.std.proofs.Common.{ℕ, ◌<◌, length}
use Rattle.bridge_graph.specs.Packing.{packed_row}
use Rattle.cycle_check.proofs.mirroring.leading.Given as goal

abbrev pub invariant-loop-c : goal.invariant-loop-c
invariant-loop-c l = (d : ℕ) → d < l.c → 0 < length (packed_row l.starts l.members d)
