use Rattle.std.proofs.Common.{rules, ap, ◌∙◌, subst}
use Rattle.atomic_table.specs.Table.{Me}
use Rattle.order_table.specs.declared.views.View.{View}
use Rattle.order_table.specs.Tells.{Compares}
use Rattle.order_table.proofs.Free.{free}
use Rattle.order_table.proofs.Steps.{takes_in, compares, settled_learned}
use Rattle.order_table.proofs.Parting.{taken}
use Rattle.order_table.proofs.orders.Order.learn.Goals as goal

pub join_seat-requires : goal.join_seat-requires
join_seat-requires c = let q = rw (← c.seat.view_is, ← c.other.view_is) at c.requires in let v = c.seat.inside.inner.me.0 in let w = c.other.inside.inner.me.0 in (
  search rules,
  search rules,
  c.other.invariant.0,
  search rules,
  takes_in c.seat.inside.inner.id v c.other.inside.inner.id w (free v c.seat.invariant.1 q.settled) (free w c.other.invariant.1 q.other.1),
)

pub load-requires : goal.load-requires
load-requires c = let q = rw (← c.seat.view_is) at c.requires in
    (search rules, search rules, compares _ c.join_seat.new.seat.id c.join_seat.new.seat.me (ap (λ m. m.0.inside) c.join_seat.ensures.2 ∙ q.settled.outside))

pub returns-clause-takes : goal.returns-clause-takes
returns-clause-takes c = rw (← c.seat.view_is, ← c.other.view_is)
    (taken c.seat.inside.inner.me.0 c.other.inside.inner.me.0 c.load.new.seat.me.0 (subst (λ (m : Me (Unit {0}) View). Compares m.0 c.load.new.seat.me.0) c.join_seat.ensures.2 c.load.ensures.2.1))

pub returns-clause-settled : goal.returns-clause-settled
returns-clause-settled c = let q = rw (← c.seat.view_is, ← c.other.view_is) at c.requires in
    settled_learned c.seat.inside.inner.me.0 c.other.inside.inner.me.0 c.load.new.seat.me.0 q.settled q.other.1
    (subst (λ (m : Me (Unit {0}) View). Compares m.0 c.load.new.seat.me.0) c.join_seat.ensures.2 c.load.ensures.2.1)
