-- Who comes to the gate. (This project's own.)
use Rattle.std.specs.Prelude.{◌≡◌, ℕ, ◌+◌, ◌<◌}
use Rattle.order_table.specs.Allowed.{Settled}
use Rattle.order_table.specs.Views.{IsNext, OrderId, Owns, Shown}

-- a reader's seat owns its reader's list; the one of number 0 owns the managed list, and no cycle was ever opened
abbrev pub IsVisitor : OrderId → ℕ → Shown → Type 0
IsVisitor order reader seat = (reader < 9) × (seat.order ≡ order) × Settled seat.view
    × (0 < reader → Owns seat.view (1 + reader))
    × (reader ≡ 0 → Owns seat.view 0 × (seat.view.holds ≡ 0) × IsNext seat.view 1)
