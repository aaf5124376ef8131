use Rattle.std.proofs.Common.{◌≡◌, ◌++◌, length, map, Ok}
use Rattle.std.specs.Vec.Iter.{into_iter_items, into_iter_len}
use Rattle.weak_reads.proofs.race.all_ended.Given as goal

abbrev pub invariant-loop-end : goal.invariant-loop-end
invariant-loop-end g l = (l.yielded ++ into_iter_items l.end-iterator ≡ into_iter_items l.initial.end-iterator)
    × (into_iter_len l.end-iterator ≡ length (into_iter_items l.end-iterator))
    × (map (λ p. Ok p) l.callers.items ≡ l.yielded)
