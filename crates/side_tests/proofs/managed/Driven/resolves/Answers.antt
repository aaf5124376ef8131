-- There is an answer for each candidate, and their handles come behind all that rows took.
use Rattle.std.proofs.Common.{◌+◌, refl, subst}
use Rattle.managed_heap.specs.Sides.{as_side}
use Rattle.side_tests.specs.Drives.{AreFrom}
use Rattle.side_tests.proofs.Snapshots.{may-close, resolved-on}
use Rattle.side_tests.proofs.managed.Driven.resolves.Goals as goal

pub resolve-out-requires-clause-close : goal.resolve-out-requires-clause-close
resolve-out-requires-clause-close c =
    let i = c.self.inside in
    let from = subst (λ n. AreFrom n c.in_ok-answers.answers.values) c.in-Some-next_handle.ensures c.in_ok-answers.ensures.from in
    may-close (as_side i.side) i.gate.count i.waiting i.answered c.in-Some.ensures.0 c.in_ok-answers.answers.values c.self.invariant c.in-Some.ensures.1 c.in_ok-answers.ensures.count from

pub invariant_of-self : goal.invariant_of-self
invariant_of-self c =
    let i = c.self.inside in
    let from = subst (λ n. AreFrom n c.in_ok-answers.answers.values) c.in-Some-next_handle.ensures c.in_ok-answers.ensures.from in
    resolved-on i.gate.count c.resolve-out.new.draw i.waiting i.answered (i.answered + i.waiting) (as_side i.side)
    (as_side c.resolve-out.new.self) 4 0 c.in_ok-answers.answers.values c.resolve-out.result from c.in_ok-answers.ensures.count refl c.resolve-out.ensures.resolves c.self.invariant
