use Rattle.std.proofs.Common.{rules, refl}
use Rattle.order_table.proofs.Doors.{opens_gate}
use Rattle.order_table.proofs.Heard.{keeps_alike}
use Rattle.order_table.proofs.orders.Order.open_gate.Goals as goal

pub fetch_and-requires : goal.fetch_and-requires
fetch_and-requires c = let q = rw (← c.seat.view_is) at c.requires in (
  search rules,
  search rules,
  opens_gate _ c.seat.inside.inner.id c.seat.inside.inner.me c.seat.invariant.1.owns
      (c.seat.invariant.1.heard, c.seat.invariant.1.holds) q.owner.0 q.owner.1 q.ended q.paid,
)

pub invariant_of-seat : goal.invariant_of-seat
invariant_of-seat c = keeps_alike c.seat.inside.inner.me c.fetch_and.new.seat.me _ c.fetch_and.ensures.2.0 c.fetch_and.ensures.2.1 (refl, refl, refl) c.seat.invariant
