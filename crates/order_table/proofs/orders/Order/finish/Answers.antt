use Rattle.std.proofs.Common.{ap, sym, ◌∙◌, subst}
use Rattle.order_table.specs.Views.{OwnsAll}
use Rattle.order_table.specs.Rule.{AreLinesOfOneHistory}
use Rattle.order_table.proofs.Steps.{tells_all, keeps_all}
use Rattle.order_table.proofs.orders.Order.finish.Goals as goal

pub returns-clause-whole : goal.returns-clause-whole
returns-clause-whole c =
    let e = rw (← c.seat.view_is) at c.note-note.ensures in
    let end = c.close_with.ensures.values in
    subst AreLinesOfOneHistory (ap (λ v. v.known) e.old.1 ∙ sym (ap (λ v. v.known) e.new.1))
    (tells_all c.seat.inside.inner.id c.seat.inside.inner.me.0 end.2.0 end.2.1.0 end.2.1.1 e.settled.0 (subst OwnsAll (sym e.old.1) (keeps_all c.args.seat.view c.requires.all)))
