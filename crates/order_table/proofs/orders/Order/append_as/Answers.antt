use Rattle.std.proofs.Common.{rules, ℕ, false, refl, ap, ◌≡◌, sym, ◌∙◌, subst}
use Rattle.order_table.specs.Rows.{at}
use Rattle.order_table.specs.Views.{kept, appended}
use Rattle.order_table.specs.Allowed.{NoDebt, OwesOnly, Settled}
use Rattle.order_table.specs.Tells.{GrowsByEntry}
use Rattle.order_table.proofs.Free.{sets_frees_none}
use Rattle.order_table.proofs.Cells.{paid_more, owes_one, owes_more}
use Rattle.order_table.proofs.Lines.{grows}
use Rattle.order_table.proofs.Steps.{appends, settled_appended}
use Rattle.order_table.proofs.Heard.{keeps_alike}
use Rattle.order_table.proofs.orders.Order.append_as.Goals as goal

pub fetch_add-requires : goal.fetch_add-requires
fetch_add-requires g c = let q = rw (← c.seat.view_is) at c.requires in (
  search rules,
  search rules,
  appends _ _ _ g.W.Saying.role g.W.Saying.made g.W.Saying.target g.W.Saying.freed c.seat.invariant.1 q.caller q.stands q.role.0 q.role.1 q.room q.may,
)

pub invariant_of-seat : goal.invariant_of-seat
invariant_of-seat g c = keeps_alike c.seat.inside.inner.me c.fetch_add.new.seat.me _ c.fetch_add.ensures.2.0 c.fetch_add.ensures.2.1 (refl, refl, refl) c.seat.invariant

pub returns-clause-grows : goal.returns-clause-grows
returns-clause-grows g c = let v = c.seat.inside.inner.me.0 in let k = kept v g.W.Saying.made g.W.Saying.target g.W.Saying.freed c.fetch_add.result in
    rw (← c.seat.view_is) (subst (λ w. GrowsByEntry v w g.W.Saying.role k) (sym c.fetch_add.ensures.2.1) (grows v g.W.Saying.role k c.requires.stands.one))

pub returns-clause-settled : goal.returns-clause-settled
returns-clause-settled g c = let q = rw (← c.seat.view_is) at c.requires in let v = c.seat.inside.inner.me.0 in
    rw (← c.seat.view_is) (λ quiet settled. subst Settled (sym c.fetch_add.ensures.2.1)
    (settled_appended v g.W.Saying.role g.W.Saying.made g.W.Saying.target g.W.Saying.freed c.fetch_add.result q.stands quiet settled))

pub returns-clause-paid : goal.returns-clause-paid
returns-clause-paid g c = rw (← c.seat.view_is) (λ unmarked frees paid. subst NoDebt (sym c.fetch_add.ensures.2.1)
    (paid_more c.seat.inside.inner.me.0 g.W.Saying.role (kept c.seat.inside.inner.me.0 g.W.Saying.made g.W.Saying.target g.W.Saying.freed c.fetch_add.result) unmarked frees paid))

pub returns-clause-owes_one : goal.returns-clause-owes_one
returns-clause-owes_one g c = let v = c.seat.inside.inner.me.0 in let k = kept v g.W.Saying.made g.W.Saying.target g.W.Saying.freed c.fetch_add.result in
    (λ cell m first marks. subst (λ w. OwesOnly w cell) (sym c.fetch_add.ensures.2.1)
    (owes_one v g.W.Saying.role k cell m first marks (sets_frees_none g.W.Saying.made.op g.W.Saying.made.caller g.W.Saying.target g.W.Saying.freed cell m marks)))

pub returns-clause-owes : goal.returns-clause-owes
returns-clause-owes g c = let v = c.seat.inside.inner.me.0 in let k = kept v g.W.Saying.made g.W.Saying.target g.W.Saying.freed c.fetch_add.result in
    rw (← c.seat.view_is) (λ first cell o. owes_more v g.W.Saying.role k cell first (sym (owed_in cell) ∙ o))
  where
    owed_in : (cell : ℕ) → at false c.fetch_add.new.seat.me.0.debts cell ≡ at false
        (appended c.seat.inside.inner.me.0 g.W.Saying.role (kept c.seat.inside.inner.me.0 g.W.Saying.made g.W.Saying.target g.W.Saying.freed c.fetch_add.result)).debts cell
    owed_in cell = ap (λ w. at false w.debts cell) c.fetch_add.ensures.2.1
