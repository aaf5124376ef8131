use Rattle.std.proofs.Common.{refl}
use Rattle.entry_reader.proofs.TailParts.{same_lists, swept_none, swept_some, swept_unread}
use Rattle.entry_reader.proofs.tails.swept_tail.Goals as goal

pub returns-in_default : goal.returns-in_default
returns-in_default c = (refl, swept_unread c.args.words.now c.take_freed_by.new.words (rw c.fork-words.ensures at c.in_default.ensures))

pub returns-in-Some-2 : goal.returns-in-Some-2
returns-in-Some-2 c =
    let k = rw c.fork-words.ensures at c.in-Some.ensures in
    let l = rw c.in-Some-2.is at c.in_ok-span.ensures.list in
    let o = c.in_ok-span.ensures.others in
    swept_some c.args.words.now c.take_freed_by.new.words c.in-Some.n c.args.lists.now c.read_freed_peers.new.self c.in-Some-2.span c.in-Some-2.cites k l o.0 o.1

pub returns-in-None : goal.returns-in-None
returns-in-None c =
    let k = rw c.fork-words.ensures at c.in-Some.ensures in
    let l = rw c.in-None.is at c.in_ok-span.ensures.list in
    let o = c.in_ok-span.ensures.others in (
      same_lists c.read_freed_peers.new.self c.args.lists.now o.0 l.0 o.1,
      swept_none c.args.words.now c.take_freed_by.new.words c.in-Some.n c.args.lists.now.peers c.read_freed_peers.new.self.peers k l,
    )
