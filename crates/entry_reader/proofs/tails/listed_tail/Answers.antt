use Rattle.std.proofs.Common.{ℕ, Option}
use Rattle.joint_machine.specs.declared.events.Reply.{Reply}
use Rattle.entry_reader.specs.Replies.{TailsListed, TailsNumbered}
use Rattle.entry_reader.proofs.TailParts.{if_ok, freed_first, freed_then}
use Rattle.entry_reader.proofs.tails.listed_tail.Goals as goal

pub returns-in-Some : goal.returns-in-Some
returns-in-Some c = freed_first c.args.op.now c.args.words.now c.args.lists.now c.freed_tail.new.lists c.in-Some.tail (rw c.in-Some.is at c.in_ok-tail.ensures)

pub returns-in-None : goal.returns-in-None
returns-in-None c =
    let none = rw c.in-None.is at c.in_ok-tail.ensures in
    let a = c.args.lists.now in
    let m = c.freed_tail.new.lists in
    let b = c.numbered_tail.new.lists in
    if_ok (λ (found : Option (Reply × Option ℕ)). TailsNumbered c.args.op.now c.args.words.now m b found)
    (λ (found : Option (Reply × Option ℕ)). TailsListed c.args.op.now c.args.words.now a b found) c.numbered_tail.result c.numbered_tail.ensures
    (λ found h. freed_then c.args.op.now c.args.words.now a m b found none h)
