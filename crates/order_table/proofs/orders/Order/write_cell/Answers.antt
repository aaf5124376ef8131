use Rattle.std.proofs.Common.{rules, refl, false, ℕ, ◌≡◌, ◌+◌, ◌-◌, ap, sym, ◌∙◌, subst, arith}
use Rattle.order_table.proofs.CellSteps.{stores_cell}
use Rattle.order_table.specs.declared.views.View.{View}
use Rattle.order_table.specs.Rows.{at}
use Rattle.order_table.specs.Views.{storing}
use Rattle.order_table.specs.Allowed.{NoDebt}
use Rattle.order_table.proofs.Places.{at_put_here, at_put_else}
use Rattle.order_table.proofs.Cells.{pays_last}
use Rattle.order_table.proofs.Heard.{keeps_alike}
use Rattle.order_table.proofs.orders.Order.write_cell.Goals as goal

pub store-requires : goal.store-requires
store-requires c = let q = rw (← c.seat.view_is) at c.requires in
    (search rules, search rules, stores_cell _ c.seat.inside.inner.id c.args.cell.0 c.args.word c.seat.inside.inner.me q.cell c.seat.invariant.1.owns q.owner q.word)

pub invariant_of-seat : goal.invariant_of-seat
invariant_of-seat c = keeps_alike c.seat.inside.inner.me c.store.new.seat.me _ c.store.ensures.2.0 c.store.ensures.2.1 (refl, refl, refl) c.seat.invariant

pub returns-clause-stored : goal.returns-clause-stored
returns-clause-stored c = let v = c.seat.inside.inner.me.0 in
    rw (← c.seat.view_is) (subst (λ (w : View). (at false w.debts c.args.cell.0 ≡ false) × ((i : ℕ) → (i ≡ c.args.cell.0 → ⊥) → at false w.debts i ≡ at false v.debts i))
    (sym (c.store.ensures.2.1 ∙ ap (λ (k : ℕ). storing k c.seat.inside.inner.me.0) (let place : 2 + c.args.cell.0 - 2 ≡ c.args.cell.0 = omega arith in place)))
    (at_put_here false v.debts c.args.cell.0 false, λ i other. at_put_else false v.debts c.args.cell.0 i false other))

pub returns-clause-paid : goal.returns-clause-paid
returns-clause-paid c = rw (← c.seat.view_is) (λ only. subst NoDebt
    (sym (c.store.ensures.2.1 ∙ ap (λ (k : ℕ). storing k c.seat.inside.inner.me.0) (let place : 2 + c.args.cell.0 - 2 ≡ c.args.cell.0 = omega arith in place)))
    (pays_last c.seat.inside.inner.me.0 c.args.cell.0 only))
