use Rattle.std.proofs.Common.{◌≡◌, ◌++◌, map, take}
use Rattle.bridge_graph.specs.Packing.{packed_rows}
use Rattle.array_graphs.specs.Graphs.{pair_of}
use Rattle.cycle_check.specs.Mirroring.{ends_of}
use Rattle.cycle_check.proofs.mirroring.push_ends.Given as goal

abbrev pub invariant-loop-p : goal.invariant-loop-p
invariant-loop-p l = map pair_of l.edges.items ≡ map pair_of l.initial.edges.items
    ++ map (ends_of l.objects (packed_rows l.starts l.members l.some)) (take l.p-index l.xrefs)
