use Rattle.std.proofs.Common.{rules, ℕ, ◌*◌, sym, subst}
use Rattle.std.specs.Prelude.{◌==◌, if◌then◌else◌, []}
use mathlib.Core.Option.{none}
use prog.Atomic.{either}
use Rattle.atomic_table.specs.Table.{step, Allows}
use Rattle.order_table.specs.Views.{IsNext}
use Rattle.order_table.specs.Rule.{Ordered}
use Rattle.order_table.specs.Tells.{Closed}
use Rattle.order_table.proofs.Heard.{keeps_alike, alike_closing}
use Rattle.order_table.proofs.Doors.{closes}
use Rattle.order_table.proofs.orders.Order.close_as.Goals as goal

pub compare_exchange-requires : goal.compare_exchange-requires
compare_exchange-requires g c =
    let q = rw (← c.seat.view_is) at c.requires in
    let slots = c.self.inside.table.shared.table_id.slots in
    let seat = c.seat.inside.inner in
    let W = g.W.Closing.cycle in (
      search rules,
      search rules,
      subst (λ (k : ℕ). Allows Ordered slots seat.id seat.me 1 (λ n. either (n == 0) (512 * k) n) (Closed W (step slots 1 0 (512 * k) none) seat.me)) q.next.0
          (closes slots seat.id seat.me W c.seat.invariant.1.owns (c.seat.invariant.1.heard, c.seat.invariant.1.holds) q.owner.0 q.owner.1
          (search rules) (subst (IsNext seat.me.0) (sym q.next.0) q.next.1)),
    )

pub invariant_of-seat : goal.invariant_of-seat
invariant_of-seat g c = let same = alike_closing (c.compare_exchange.result == 0) g.W.Closing.cycle c.seat.inside.inner.me.0 in
    keeps_alike c.seat.inside.inner.me c.compare_exchange.new.seat.me
    (if c.compare_exchange.result == 0 then record c.seat.inside.inner.me.0 { holds = g.W.Closing.cycle; scanned = [] } else c.seat.inside.inner.me.0)
    c.compare_exchange.ensures.2.0 c.compare_exchange.ensures.2.1 same c.seat.invariant
