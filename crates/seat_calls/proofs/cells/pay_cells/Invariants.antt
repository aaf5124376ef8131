-- The words of the cells so far are stored.
use Rattle.std.proofs.Common.{◌≡◌, ℕ, ◌≤◌, true, false}
use Rattle.order_table.specs.Rows.{at}
use Rattle.seat_calls.specs.Paying.{StillAs}
use Rattle.seat_calls.proofs.cells.pay_cells.Given as goal

abbrev pub invariant-loop-c : goal.invariant-loop-c
invariant-loop-c g l = (l.seat.order ≡ l.fn.order) × StillAs l.fn.seat.view l.seat.view × ((k : ℕ) → at false l.seat.view.debts k ≡ true → (at false l.fn.seat.view.debts k ≡ true) × (l.c ≤ k))
