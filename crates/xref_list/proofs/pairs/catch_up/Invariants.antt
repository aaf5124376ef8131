use Rattle.std.proofs.Common.{◌-◌, length}
use Rattle.xref_list.specs.Known.{ArePairsKnown}
use Rattle.xref_list.proofs.pairs.catch_up.Given as goal

abbrev pub invariant-loop-known : goal.invariant-loop-known
invariant-loop-known l = ArePairsKnown l.pairs l.known.keys

abbrev pub decreases-loop-known : goal.decreases-loop-known
decreases-loop-known l = length l.pairs - length l.known.keys
