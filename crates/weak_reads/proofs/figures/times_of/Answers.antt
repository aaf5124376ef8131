use Rattle.std.proofs.Common.{sym, subst}
use Rattle.std.specs.List.Sorted.{IsNonDecreasing}
use Rattle.std.proofs.lemmas.List.Sorted.{IsNonDecreasingBy-from_sort}
use Rattle.weak_reads.proofs.figures.times_of.Goals as goal

pub greatest_but-requires : goal.greatest_but-requires
greatest_but-requires c = subst IsNonDecreasing (sym c.as_slice-rising.ensures.value) (IsNonDecreasingBy-from_sort (λ x. x) c.sort_unstable.new.self.items c.sort_unstable.ensures.sorted)

pub greatest_but-requires-2 : goal.greatest_but-requires-2
greatest_but-requires-2 c = subst IsNonDecreasing (sym c.as_slice-rising.ensures.value) (IsNonDecreasingBy-from_sort (λ x. x) c.sort_unstable.new.self.items c.sort_unstable.ensures.sorted)
