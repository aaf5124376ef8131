use Rattle.std.proofs.Common.{refl, arith}
use Rattle.entry_reader.proofs.WholeLines.{entry_by, none_by_head, none_by_tail}
use Rattle.entry_reader.proofs.entries.read_entry.Goals as goal

pub returns-in_default : goal.returns-in_default
returns-in_default c = (refl, none_by_head c.args.text c.args.number c.take_head.new.words (rw c.of-words.ensures at c.in_default.ensures))

pub returns-in_default-2 : goal.returns-in_default-2
returns-in_default-2 c =
    let none = rw c.in_default-2.is at c.in_ok-reply.ensures in
    (none.0, none_by_tail c.args.text c.args.number c.take_head.new.words (c.in-Some.caller, c.in-Some.index, c.in-Some.op) (rw c.of-words.ensures at c.in-Some.ensures) none.1)

pub returns : goal.returns
returns c =
    entry_by c.args.text c.args.number c.take_head.new.words c.in-Some.caller c.in-Some.index c.in-Some.op c.in-Some-2.reply c.in-Some-2.cites c.args.lists.now c.read_tail.new.lists (omega arith)
    (rw c.of-words.ensures at c.in-Some.ensures) (rw c.in-Some-2.is at c.in_ok-reply.ensures)
