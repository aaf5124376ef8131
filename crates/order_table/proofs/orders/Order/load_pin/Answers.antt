use Rattle.std.proofs.Common.{rules, ◌≡◌, ℕ, ◌+◌, ◌-◌, refl, sym, ap, ◌∙◌, subst, arith}
use Rattle.std.specs.Prelude.{None, Some}
use Rattle.order_table.specs.declared.views.View.{View}
use Rattle.order_table.specs.Rows.{put}
use Rattle.order_table.specs.Views.{scanning}
use Rattle.order_table.specs.Tells.{StaysAs}
use Rattle.order_table.proofs.PinSteps.{loads_pin}
use Rattle.order_table.proofs.Heard.{keeps_alike, alike_scanning, stays_scanning, scans_kept}
use Rattle.order_table.proofs.orders.Order.load_pin.Goals as goal

pub load-requires : goal.load-requires
load-requires c = (search rules, search rules, loads_pin _ c.seat.inside.inner.id c.args.reader c.seat.inside.inner.me c.requires.reader.0 c.requires.reader.1)

pub invariant_of-seat : goal.invariant_of-seat
invariant_of-seat c = let same = alike_scanning (65 + c.args.reader - 65) c.load.result c.seat.inside.inner.me.0 in
    keeps_alike c.seat.inside.inner.me c.load.new.seat.me _ c.load.ensures.2.0 c.load.ensures.2.1 same c.seat.invariant

pub returns-clause-own : goal.returns-clause-own
returns-clause-own c = rw (← c.seat.view_is) (λ own fill empty. c.load.ensures.2.2 c.args.reader refl c.requires.reader.0 c.requires.reader.1 own fill empty)

pub returns-clause-held : goal.returns-clause-held
returns-clause-held c = rw (← c.seat.view_is) (λ owns empty m is. c.load.ensures.2.3 c.args.reader m refl c.requires.reader.0 c.requires.reader.1 owns empty is)

pub returns-clause-small : goal.returns-clause-small
returns-clause-small c = rw (← c.seat.view_is) (λ owns empty. c.load.ensures.2.4 c.args.reader refl c.requires.reader.0 c.requires.reader.1 owns empty)

pub returns-clause-stays : goal.returns-clause-stays
returns-clause-stays c = rw (← c.seat.view_is) (subst (StaysAs c.seat.inside.inner.me.0) (sym c.load.ensures.2.1) (stays_scanning (65 + c.args.reader - 65) c.load.result c.seat.inside.inner.me.0))

pub returns-clause-scans : goal.returns-clause-scans
returns-clause-scans c = rw (← c.seat.view_is) (λ holding paid. let v = c.seat.inside.inner.me.0 in let place : 65 + c.args.reader - 65 ≡ c.args.reader = omega arith in
    subst (λ (w : View). w.scanned ≡ put None v.scanned c.args.reader (Some c.load.result))
    (sym (c.load.ensures.2.1 ∙ ap (λ (k : ℕ). scanning k c.load.result v) place)) (scans_kept c.args.reader c.load.result v holding paid))
