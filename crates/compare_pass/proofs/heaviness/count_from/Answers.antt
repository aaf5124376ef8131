-- What was lent to the searches stands there again.
use Rattle.std.proofs.Common.{◌≡◌, false, refl, arith}
use Rattle.std.proofs.lemmas.List.{take_at}
use Rattle.std.proofs.lemmas.List.Elements.{All-replicate}
use Rattle.compare_pass.proofs.heaviness.count_from.Goals as goal

pub count_all-requires-clause-marks : goal.count_all-requires-clause-marks
count_all-requires-clause-marks c = omega (arith, c.deref_mut.ensures.len, c.in_ok-marks.ensures.len, c.nodes-n.ensures.count)

pub count_all-requires-clause-clear : goal.count_all-requires-clause-clear
count_all-requires-clause-clear c = rw (c.deref_mut.ensures.value, c.in_ok-marks.ensures.items_if_clones_equal (λ y e. e)) (All-replicate (λ m. m ≡ false) c.nodes-n.result false refl)

pub count_all-requires-clause-counts : goal.count_all-requires-clause-counts
count_all-requires-clause-counts c = omega (arith, c.deref_mut-2.ensures.len, c.in_ok-counts.ensures.len, c.nodes-n.ensures.count)

pub count_all-requires-clause-none : goal.count_all-requires-clause-none
count_all-requires-clause-none c = rw (c.deref_mut-2.ensures.value, c.in_ok-counts.ensures.items_if_clones_equal (λ y e. e)) (All-replicate (λ m. m ≡ 0) c.nodes-n.result 0 refl)

pub returns : goal.returns
returns c = rw (take_at c.count_all.new.counts _ c.in_ok-counts.counts.len (omega arith)) c.in_ok-count_all.ensures
