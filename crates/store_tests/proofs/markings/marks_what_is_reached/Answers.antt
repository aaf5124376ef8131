-- Where no row is marked, the marks are closed.
use Rattle.reachability.proofs.Marking.{fresh-unmarked}
use Rattle.store_tests.proofs.markings.marks_what_is_reached.Goals as goal

pub mark_from-requires-clause-shut : goal.mark_from-requires-clause-shut
mark_from-requires-clause-shut g c = rw c.unmarked_rows-rows.ensures (λ x y e m. absurd (fresh-unmarked 6 x m))
