use Rattle.std.proofs.Common.{◌≡◌, ◌++◌, map, take, vec_capacity}
use Rattle.xref_list.proofs.pairs.push_all.Given as goal

abbrev pub invariant-loop-dst : goal.invariant-loop-dst
invariant-loop-dst l = record {
  pairs : l.pairs.items ≡ l.initial.pairs.items ++ map (λ d. (l.src, d)) (take l.dst-index l.dsts);
  capacity : vec_capacity l.pairs ≡ vec_capacity l.initial.pairs;
}
