-- While a cycle holds the gate nothing is known more, and no entry is made.
use Rattle.std.proofs.Common.{◌≡◌}
use Rattle.order_table.specs.Allowed.{Settled}
use Rattle.weak_wait.proofs.reads.read_waiting.Given as goal

abbrev pub invariant-loop : goal.invariant-loop
invariant-loop g l =
    (goal.iterator-loop g).can_next l.iterator' × (goal.iterator-loop g).is_finite l.iterator'
    × (l.seat.order ≡ l.fn.order) × (l.seat.view.known ≡ l.fn.seat.view.known) × (l.seat.view.owns ≡ l.fn.seat.view.owns)
    × (l.seat.view.holds ≡ l.fn.seat.view.holds) × Settled l.seat.view × (l.entries ≡ l.fn.entries)
