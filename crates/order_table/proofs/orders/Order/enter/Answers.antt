use Rattle.std.proofs.Common.{rules, ℕ, ◌≡◌, ◌-◌, ◌^◌, ◌<◌, [], sym, ap, ◌∙◌, subst, arith}
use Rattle.std.specs.Prelude.{bit_or, bit_and}
use mathlib.Core.Option.{none}
use Rattle.std.proofs.Math.Nat.{one-le-pow}
use Rattle.atomic_table.specs.Table.{step, Allows}
use Rattle.order_table.specs.Rule.{Ordered}
use Rattle.order_table.specs.Tells.{Entered, GaveBack}
use Rattle.order_table.proofs.Free.{free}
use Rattle.order_table.proofs.Doors.{enters, gives_back, entered_held, entered_open}
use Rattle.order_table.proofs.orders.Order.enter.Goals as goal

pub fetch_or-found-requires : goal.fetch_or-found-requires
fetch_or-found-requires c =
    let q = rw (← c.seat.view_is) at c.requires in
    let slots = c.self.inside.table.shared.table_id.slots in
    let seat = c.seat.inside.inner in (
      search rules,
      search rules,
      subst (λ (b : ℕ). Allows Ordered slots seat.id seat.me 1 (λ n. bit_or n b) (Entered (step slots 1 b 0 none) seat.me)) (sym c.bit_of-bit.ensures)
          (enters slots seat.id seat.me c.args.reader q.reader.0 q.reader.1 (free seat.me.0 c.seat.invariant.1 q.settled) q.reader.2),
    )

pub fetch_and-requires : goal.fetch_and-requires
fetch_and-requires c =
    let q = rw (← c.seat.view_is) at c.requires in
    let slots = c.self.inside.table.shared.table_id.slots in
    let seat = c.fetch_or-found.new.seat in
    let is = c.fetch_or-found.ensures.2.1 ∙ entered_held c.bit_of-bit.result c.fetch_or-found.result c.seat.inside.inner.me.0 c.if-found-eq0.false in
    let owes : seat.me.0.owes ≡ c.bit_of-bit.result = ap (λ v. v.owes) is in
    let out : seat.me.0.inside ≡ 0 = ap (λ v. v.inside) is ∙ q.settled.outside in
    let some : 0 < c.bit_of-bit.result = subst (λ (b : ℕ). 0 < b) (sym c.bit_of-bit.ensures) (one-le-pow _ 2 (omega arith)) in (
      search rules,
      search rules,
      subst (λ (b : ℕ). Allows Ordered slots seat.id seat.me 1 (λ n. bit_and n (2 ^ 64 - 1 - b)) (GaveBack (step slots 1 (2 ^ 64 - 1 - b) 0 none) seat.me)) owes
          (gives_back slots seat.id seat.me (omega arith) out (ap (λ v. v.fill) is ∙ q.settled.stored.0)),
    )

pub returns-then-found-eq0-clause-ok : goal.returns-then-found-eq0-clause-ok
returns-then-found-eq0-clause-ok c =
    let v = c.seat.inside.inner.me.0 in
    rw (← c.seat.view_is) (c.fetch_or-found.ensures.2.1 ∙ (entered_open c.bit_of-bit.result c.fetch_or-found.result v (search rules)
    ∙ ap (λ (b : ℕ). record v { inside = b; loads = [] }) c.bit_of-bit.ensures))
