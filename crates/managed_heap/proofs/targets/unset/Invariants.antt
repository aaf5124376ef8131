-- So many cells are there, and none is set.
use Rattle.std.proofs.Common.{◌≡◌, map, replicate, None}
use Rattle.managed_heap.proofs.targets.unset.Given as goal

abbrev pub invariant-loop : goal.invariant-loop
invariant-loop l = map (λ s. s.value) l.list.items ≡ replicate l.counter None
