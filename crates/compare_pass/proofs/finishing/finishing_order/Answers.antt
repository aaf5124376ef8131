-- What was lent to the search stands there again.
use Rattle.std.proofs.Common.{◌≡◌, false, refl, arith}
use Rattle.std.proofs.lemmas.List.Elements.{All-replicate}
use Rattle.compare_pass.proofs.finishing.finishing_order.Goals as goal

pub finish_all-requires-clause-seen : goal.finish_all-requires-clause-seen
finish_all-requires-clause-seen c = omega (arith, c.deref_mut.ensures.len, c.in_ok-seen.ensures.len, c.nodes-n.ensures.count)

pub finish_all-requires-clause-unseen : goal.finish_all-requires-clause-unseen
finish_all-requires-clause-unseen c = rw (c.deref_mut.ensures.value, c.in_ok-seen.ensures.items_if_clones_equal (λ y e. e)) (All-replicate (λ m. m ≡ false) c.nodes-n.result false refl)

pub finish_all-requires-clause-order : goal.finish_all-requires-clause-order
finish_all-requires-clause-order c = c.in_ok-order.ensures.items

pub returns : goal.returns
returns c = c.in_ok-finish_all.ensures
