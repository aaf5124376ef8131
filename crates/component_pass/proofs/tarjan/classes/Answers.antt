-- What was lent to the search stands there again.
use Rattle.std.proofs.Common.{◌≡◌, refl, arith}
use Rattle.std.proofs.lemmas.List.Elements.{All-replicate}
use Rattle.std.proofs.lemmas.List.{take_at}
use Rattle.component_pass.proofs.tarjan.classes.Goals as goal

pub visit_all-requires-clause-marks : goal.visit_all-requires-clause-marks
visit_all-requires-clause-marks c = omega (arith, c.deref_mut.ensures.len, c.in_ok-marks.ensures.len, c.nodes-n.ensures.count)

pub visit_all-requires-clause-labels : goal.visit_all-requires-clause-labels
visit_all-requires-clause-labels c = omega (arith, c.deref_mut-2.ensures.len, c.in_ok-labels.ensures.len, c.nodes-n.ensures.count)

pub visit_all-requires-clause-unseen : goal.visit_all-requires-clause-unseen
visit_all-requires-clause-unseen c = rw (c.deref_mut.ensures.value, c.in_ok-marks.ensures.items_if_clones_equal (λ y e. e)) (All-replicate (λ m. m ≡ 0) c.nodes-n.result 0 refl)

pub visit_all-requires-clause-stack : goal.visit_all-requires-clause-stack
visit_all-requires-clause-stack c = c.in_ok-stack.ensures.items

pub visit_all-requires-clause-frames : goal.visit_all-requires-clause-frames
visit_all-requires-clause-frames c = c.in_ok-frames.ensures.items

pub visit_all-requires-clause-rows : goal.visit_all-requires-clause-rows
visit_all-requires-clause-rows c = c.in_ok-rows.ensures

pub returns-clause-classes : goal.returns-clause-classes
returns-clause-classes c = rw (take_at c.visit_all.new.labels _ c.in_ok-labels.labels.len (omega arith)) c.in_ok-visit_all.ensures.classes

pub returns-clause-order : goal.returns-clause-order
returns-clause-order c = rw (take_at c.visit_all.new.labels _ c.in_ok-labels.labels.len (omega arith)) c.in_ok-visit_all.ensures.order
