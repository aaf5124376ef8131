use Rattle.weak_wait.proofs.Making.{may_make}
use Rattle.weak_wait.proofs.reads.note.Goals as goal

pub append-number-requires-clause-may : goal.append-number-requires-clause-may
append-number-requires-clause-may c = rw (c.reply_of.ensures)
    (may_make c.args.seat.now.view c.args.reader c.args.index c.args.act.now c.args.got c.requires.reader.0 c.requires.act c.requires.owes c.requires.may)
