use Rattle.entry_reader.proofs.TailParts.{same_lists, took_none, took_some}
use Rattle.entry_reader.proofs.tails.notices_tail.Goals as goal

pub returns-in-Some : goal.returns-in-Some
returns-in-Some c =
    let l = rw (c.fork.ensures, c.in-Some.is) at c.in_ok-span.ensures.list in
    let o = c.in_ok-span.ensures.others in
    took_some c.args.words.now c.args.lists.now c.read_notices.new.self c.in-Some.span c.in-Some.cites l o.0 o.1

pub returns-in-None : goal.returns-in-None
returns-in-None c =
    let l = rw (c.fork.ensures, c.in-None.is) at c.in_ok-span.ensures.list in
    let o = c.in_ok-span.ensures.others in
    (same_lists c.read_notices.new.self c.args.lists.now o.0 o.1 l.0, took_none c.args.words.now c.args.lists.now.notices c.read_notices.new.self.notices l)
