use Rattle.std.proofs.Common.{◌≡◌, true, false, [], sym, ap, ◌∙◌, subst}
use Rattle.std.specs.Prelude.{Some}
use Rattle.order_table.specs.Rows.{at}
use Rattle.order_table.specs.Owed.{says_word, target}
use Rattle.order_table.specs.Views.{known}
use Rattle.seat_calls.proofs.Words.{gone_word, left_word}
use Rattle.seat_calls.proofs.cells.pay_cell.Goals as goal

pub write_cell-requires-clause-word : goal.write_cell-requires-clause-word
write_cell-requires-clause-word g c = let v = c.args.seat.now.view in
    sym (ap (λ ls. says_word (at [] ls 0) c.args.cell.0) c.load_cell-word.ensures.stays.known
    ∙ gone_word v (g.L.Lives.live c.args.side.now) v.holds c.args.cell.0 c.load_cell-word.result
    (at false v.debts c.args.cell.0) c.requires.agrees (c.load_cell-word.ensures.owner c.requires.seat.1) c.if-is_gone.ensures)

pub returns-else-is_gone-clause-paid : goal.returns-else-is_gone-clause-paid
returns-else-is_gone-clause-paid g c k o =
    let v = c.args.seat.now.view in
    let old : at false v.debts k ≡ true = sym (ap (λ ds. at false ds k) c.load_cell-word.ensures.stays.debts) ∙ o in
    let t = (c.requires.freed k old).1 in (
      old,
      λ e. left_word v (g.L.Lives.live c.args.side.now) v.holds c.args.cell.0 c.load_cell-word.result
          (at false v.debts c.args.cell.0) c.requires.agrees (c.load_cell-word.ensures.owner c.requires.seat.1) c.if-is_gone.ensures
          t.0 (subst (λ i. target (known v 0) i ≡ Some t.0) e t.1) t.2 (subst (λ i. at false v.debts i ≡ true) e old),
    )
