use Rattle.std.proofs.Common.{sym, subst}
use mathlib.Core.List.{IsPrefix}
use base.Growing.{prefix_trans}
use Rattle.order_table.specs.Views.{known}
use Rattle.seat_calls.proofs.Handing.{grows_begins}
use Rattle.seat_calls.proofs.reading.read_locked.Goals as goal

pub give_back-requires-clause-more : goal.give_back-requires-clause-more
give_back-requires-clause-more c i =
    let l = c.lend.ensures.lent in
    let lent = c.lend.new.locked.view in
    let made = c.read-made.new.seat.view in
    subst (λ ks. IsPrefix ks (known made i)) (sym (l.same i)) (prefix_trans (known c.args.mine.now.view i)
    (known lent i) (known made i) (l.heard i) (grows_begins lent made _ _ c.read-made.ensures.answers.reads.grows i))
