use Rattle.std.proofs.Common.{codes, decimal}
use Rattle.entry_reader.specs.Fitting.{Short}
use Rattle.entry_reader.proofs.Parts.{two_empty, two_other, two_short, two_unread, two_words}
use Rattle.entry_reader.proofs.tails.take_freed_by.Goals as goal

pub returns-in_err-next : goal.returns-in_err-next
returns-in_err-next c = rw c.from_residual.ensures (two_empty Short decimal (codes "freed") c.args.words.now c.next.new.self c.in_err-next.ensures.0)

pub returns-in_err-n : goal.returns-in_err-n
returns-in_err-n c = rw c.from_residual-in_err-n.ensures (two_unread Short decimal
    (codes "freed") c.args.words.now c.next.new.self c.next.new.self c.in_ok-next.field-0.now c.in_ok-next.ensures c.in_err-n.ensures)

pub returns-in_err-next-2 : goal.returns-in_err-next-2
returns-in_err-next-2 c = rw c.from_residual-in_err-next-2.ensures
    (two_short Short decimal (codes "freed") c.args.words.now c.next.new.self c.next-2.new.self c.in_ok-next.field-0.now c.in_ok-next.ensures c.in_err-next-2.ensures.0)

pub returns-then-is_same : goal.returns-then-is_same
returns-then-is_same c = two_words Short decimal (codes "freed") c.args.words.now c.next.new.self c.next-2.new.self c.in_ok-next.field-0.now
    c.in_ok-next-2.field-0.now c.in_ok-n.n c.in_ok-next.ensures c.in_ok-next-2.ensures c.in_ok-n.ensures.0 c.in_ok-n.ensures.1 c.if-is_same.ensures

pub returns-else-is_same : goal.returns-else-is_same
returns-else-is_same c = two_other Short decimal (codes "freed") c.args.words.now c.next.new.self c.next-2.new.self
    c.in_ok-next.field-0.now c.in_ok-next-2.field-0.now c.in_ok-next.ensures c.in_ok-next-2.ensures c.if-is_same.ensures
