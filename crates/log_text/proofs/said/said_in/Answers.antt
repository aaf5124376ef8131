use Rattle.std.proofs.Common.{sym, ◌∙◌}
use Rattle.log_text.proofs.LineWords.{neither-end, neither-line, says-end, says-line}
use Rattle.log_text.proofs.said.said_in.Goals as goal

pub returns-in_err-end_of : goal.returns-in_err-end_of
returns-in_err-end_of c = rw c.from_residual-in_err-end_of.ensures
    (neither-end c.args.text c.in_ok-first.first.now c.next.new.self (sym c.of-words.ensures ∙ c.in_ok-first.ensures) c.if-is_same.ensures c.in_err-end_of.ensures)

pub returns-then-is_same : goal.returns-then-is_same
returns-then-is_same c =
    let n = c.in_ok-end_of.ensures in
    (n.0, says-end c.args.text c.in_ok-first.first.now c.next.new.self c.in_ok-end_of.field-0 (sym c.of-words.ensures ∙ c.in_ok-first.ensures) c.if-is_same.ensures n.1)

pub returns-in_err-line_of : goal.returns-in_err-line_of
returns-in_err-line_of c = rw c.from_residual-in_err-line_of.ensures
    (neither-line c.args.text c.in_ok-first.first.now c.next.new.self (sym c.of-words.ensures ∙ c.in_ok-first.ensures) c.if-is_same.ensures c.in_err-line_of.ensures)

pub returns : goal.returns
returns c =
    let l = c.in_ok-line_of.ensures in
    (l.0, says-line c.args.text c.in_ok-first.first.now c.next.new.self c.in_ok-line_of.field-0 c.in_ok-mark.mark (sym c.of-words.ensures ∙ c.in_ok-first.ensures) c.in_ok-mark.ensures l.1 l.2)
