use Rattle.std.proofs.Common.{◌≡◌, map}
use Rattle.std.specs.Prelude.{flat_map}
use Rattle.joint_machine.specs.Components.{circle}
use Rattle.bridge_graph.specs.Packing.{packed_rows}
use Rattle.array_graphs.specs.Graphs.{pair_of}
use Rattle.cycle_check.proofs.mirroring.push_circles.Given as goal

abbrev pub invariant-loop-c : goal.invariant-loop-c
invariant-loop-c l = map pair_of l.edges.items ≡ flat_map circle (packed_rows l.starts l.members l.c)
