use Rattle.entry_reader.proofs.NumberParts.{number_empty, number_low, number_next, number_unread}
use Rattle.entry_reader.proofs.lists.next_number.Goals as goal

pub returns-in_err-next : goal.returns-in_err-next
returns-in_err-next c = rw c.from_residual.ensures (number_empty c.args.letter c.args.least c.args.words.now (let e = c.in_err-next.ensures.0 in cc))

pub returns-in_err-n : goal.returns-in_err-n
returns-in_err-n c = rw c.from_residual-in_err-n.ensures (number_unread c.args.letter c.args.least c.args.words.now c.next.new.self c.in_ok-next.field-0.now
    (let e = c.in_ok-next.ensures in cc) c.in_err-n.ensures)

pub returns-then-n-least : goal.returns-then-n-least
returns-then-n-least c = number_low c.args.letter c.args.least c.in_ok-n.n c.args.words.now c.next.new.self c.in_ok-next.field-0.now
    (let e = c.in_ok-next.ensures in cc) c.in_ok-n.ensures.0 c.in_ok-n.ensures.1 c.if-n-least.true

pub returns : goal.returns
returns c = number_next c.args.letter c.args.least c.in_ok-n.n c.args.words.now c.next.new.self c.in_ok-next.field-0.now
    (let e = c.in_ok-next.ensures in cc) c.in_ok-n.ensures.0 c.in_ok-n.ensures.1 c.if-n-least.false
