use Rattle.std.proofs.Common.{rules, ap, sym, subst}
use Rattle.order_table.specs.Allowed.{Settled}
use Rattle.order_table.proofs.Free.{free}
use Rattle.order_table.proofs.Steps.{cuts, settled_giving, settled_given}
use Rattle.order_table.proofs.orders.Order.cut.Goals as goal

pub split_seat-requires : goal.split_seat-requires
split_seat-requires g c = let q = rw (← c.seat.view_is) at c.requires in
    (search rules, search rules, cuts c.seat.inside.inner.id c.seat.inside.inner.me.0 g.W.Lines.lines (free c.seat.inside.inner.me.0 c.seat.invariant.1 q.settled))

pub returns-clause-settled : goal.returns-clause-settled
returns-clause-settled g c = let q = rw (← c.seat.view_is) at c.requires in (
  subst Settled (sym (ap (λ m. m.0) c.split_seat.ensures.2)) (settled_giving g.W.Lines.lines c.seat.inside.inner.me.0 q.settled),
  subst Settled (sym (ap (λ m. m.0) c.split_seat.ensures.4)) (settled_given g.W.Lines.lines c.seat.inside.inner.me.0 q.settled),
)
