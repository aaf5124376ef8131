use Rattle.std.proofs.Common.{ℕ, Option}
use Rattle.joint_machine.specs.declared.events.Reply.{Reply}
use Rattle.entry_reader.specs.Replies.{TailsMeant, TailsUnnoticed}
use Rattle.entry_reader.proofs.TailParts.{if_ok, notices_first, notices_else}
use Rattle.entry_reader.proofs.tails.finalise_tail.Goals as goal

pub returns-in-Some : goal.returns-in-Some
returns-in-Some c = notices_first c.args.op.now c.args.words.now c.args.lists.now c.notices_tail.new.lists c.in-Some.tail c.requires (rw c.in-Some.is at c.in_ok-tail.ensures)

pub returns-in-None : goal.returns-in-None
returns-in-None c =
    let none = rw c.in-None.is at c.in_ok-tail.ensures in
    let a = c.args.lists.now in
    let m = c.notices_tail.new.lists in
    let b = c.unnoticed_tail.new.lists in
    if_ok (λ (found : Option (Reply × Option ℕ)). TailsUnnoticed c.args.op.now c.args.words.now m b found)
    (λ (found : Option (Reply × Option ℕ)). TailsMeant c.args.op.now c.args.words.now a b found) c.unnoticed_tail.result c.unnoticed_tail.ensures
    (λ found h. notices_else c.args.op.now c.args.words.now a m b found c.requires none h)
