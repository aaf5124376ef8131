use Rattle.std.proofs.Common.{rules, ℕ, ◌-◌, ◌^◌, ◌<◌, sym, ◌∙◌, subst, arith}
use Rattle.std.specs.Prelude.{bit_and}
use mathlib.Core.Option.{none}
use Rattle.std.proofs.Math.Nat.{one-le-pow}
use Rattle.atomic_table.specs.Table.{step, Allows}
use Rattle.order_table.specs.Rule.{Ordered}
use Rattle.order_table.specs.Tells.{Left}
use Rattle.order_table.proofs.Doors.{leaves}
use Rattle.order_table.proofs.orders.Order.leave.Goals as goal

pub fetch_and-requires : goal.fetch_and-requires
fetch_and-requires c =
    let q = rw (← c.seat.view_is) at c.requires in
    let slots = c.self.inside.table.shared.table_id.slots in
    let seat = c.seat.inside.inner in
    let some : 0 < seat.me.0.inside = subst (λ (b : ℕ). 0 < b) (sym q.inside) (one-le-pow c.args.reader 2 (omega arith)) in (
      search rules,
      search rules,
      subst (λ (b : ℕ). Allows Ordered slots seat.id seat.me 1 (λ n. bit_and n (2 ^ 64 - 1 - b)) (Left (step slots 1 (2 ^ 64 - 1 - b) 0 none) seat.me)) (q.inside ∙ sym c.bit_of-bit.ensures)
          (leaves slots seat.id seat.me some q.filled),
    )
