use Rattle.std.proofs.Common.{◌≡◌, map, take}
use Rattle.pass_c.proofs.results.write_xrefs.Given as goal
use Rattle.array_graphs.specs.Graphs.{pair_of}

abbrev pub invariant-loop-i : goal.invariant-loop-i
invariant-loop-i l = map pair_of (take l.i l.xrefs) ≡ take l.i l.found.pairs
