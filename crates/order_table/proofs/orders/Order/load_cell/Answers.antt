use Rattle.std.proofs.Common.{rules, ℕ, false, ◌≡◌, ◌+◌, ◌-◌, sym, ap, ◌∙◌, subst, arith}
use Rattle.order_table.specs.Rows.{at}
use Rattle.order_table.specs.Owed.{IsLoaded, says_word}
use Rattle.order_table.specs.Views.{known, loading}
use Rattle.order_table.specs.Rule.{SetsCell, CellIs}
use Rattle.order_table.specs.Tells.{StaysAs}
use Rattle.order_table.specs.declared.views.View.{View}
use Rattle.order_table.proofs.Cells.{settled_cell}
use Rattle.order_table.proofs.CellSteps.{loads_cell}
use Rattle.order_table.proofs.Heard.{keeps_alike, alike_loading, stays_loading, loads_kept}
use Rattle.order_table.proofs.orders.Order.load_cell.Goals as goal

pub load-requires : goal.load-requires
load-requires c = let q = rw (← c.seat.view_is) at c.requires in (search rules, search rules, loads_cell _ c.seat.inside.inner.id c.args.cell.0 c.seat.inside.inner.me q.cell c.seat.invariant.1.owns)

pub invariant_of-seat : goal.invariant_of-seat
invariant_of-seat c = let same = alike_loading (2 + c.args.cell.0 - 2) c.load.result c.seat.inside.inner.me.0 in
    keeps_alike c.seat.inside.inner.me c.load.new.seat.me _ c.load.ensures.2.0 c.load.ensures.2.1 same c.seat.invariant

pub returns-clause-unset : goal.returns-clause-unset
returns-clause-unset c = rw (← c.seat.view_is) (λ paid z y st e. let place : 2 + c.args.cell.0 - 2 ≡ c.args.cell.0 = omega arith in c.load.ensures.2.3 paid z y st (subst (SetsCell y) (sym place) e))

pub returns-clause-owner : goal.returns-clause-owner
returns-clause-owner c = rw (← c.seat.view_is) (λ owns. let v = c.seat.inside.inner.me.0 in let place : 2 + c.args.cell.0 - 2 ≡ c.args.cell.0 = omega arith in
    subst (λ (k : ℕ). CellIs (known v 0) v.holds (at false v.debts k) k c.load.result) place (c.load.ensures.2.2 owns))

pub returns-clause-stays : goal.returns-clause-stays
returns-clause-stays c = rw (← c.seat.view_is) (subst (StaysAs c.seat.inside.inner.me.0) (sym c.load.ensures.2.1) (stays_loading (2 + c.args.cell.0 - 2) c.load.result c.seat.inside.inner.me.0))

pub returns-clause-loaded : goal.returns-clause-loaded
returns-clause-loaded c = rw (← c.seat.view_is) (λ within paid. let v = c.seat.inside.inner.me.0 in let place : 2 + c.args.cell.0 - 2 ≡ c.args.cell.0 = omega arith in
    subst (λ (w : View). IsLoaded w.loads c.args.cell.0 c.load.result)
    (sym (c.load.ensures.2.1 ∙ ap (λ (k : ℕ). loading k c.load.result v) place)) (loads_kept c.args.cell.0 c.load.result v within paid))

pub returns-clause-says : goal.returns-clause-says
returns-clause-says c = rw (← c.seat.view_is) (λ owns paid. let v = c.seat.inside.inner.me.0 in let place : 2 + c.args.cell.0 - 2 ≡ c.args.cell.0 = omega arith in
    subst (λ (k : ℕ). c.load.result ≡ says_word (known v 0) k) place
    (settled_cell (known v 0) v.holds (at false v.debts (2 + c.args.cell.0 - 2)) (2 + c.args.cell.0 - 2) c.load.result (paid (2 + c.args.cell.0 - 2)) (c.load.ensures.2.2 owns)))
