use Rattle.std.proofs.Common.{rules, refl}
use Rattle.order_table.proofs.PinSteps.{stores_pin}
use Rattle.order_table.proofs.Heard.{keeps_alike}
use Rattle.order_table.proofs.orders.Order.set_pin.Goals as goal

pub store-requires : goal.store-requires
store-requires c = let q = rw (← c.seat.view_is) at c.requires in
    (search rules, search rules, stores_pin _ c.seat.inside.inner.id c.args.reader c.args.word c.seat.inside.inner.me q.reader.0 q.reader.1 q.pass q.word)

pub invariant_of-seat : goal.invariant_of-seat
invariant_of-seat c = keeps_alike c.seat.inside.inner.me c.store.new.seat.me _ c.store.ensures.2.0 c.store.ensures.2.1 (refl, refl, refl) c.seat.invariant
