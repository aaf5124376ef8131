use Rattle.std.proofs.Common.{ℕ, Option}
use Rattle.joint_machine.specs.declared.events.Reply.{Reply}
use Rattle.entry_reader.specs.Tailing.{Tails}
use Rattle.entry_reader.specs.Replies.{IsTook, TailsMeant}
use Rattle.entry_reader.proofs.TailParts.{if_ok, unnoticed_first, notices_last}
use Rattle.entry_reader.proofs.tails.other_tail.Goals as goal

pub returns-in-Some : goal.returns-in-Some
returns-in-Some c = unnoticed_first c.args.op.now c.args.words.now c.args.lists.now c.unnoticed_tail.new.lists c.in-Some.tail c.requires (rw c.in-Some.is at c.in_ok-tail.ensures)

pub returns-in-None : goal.returns-in-None
returns-in-None c =
    let none = rw c.in-None.is at c.in_ok-tail.ensures in
    let a = c.args.lists.now in
    let m = c.unnoticed_tail.new.lists in
    let b = c.notices_tail.new.lists in
    if_ok (λ (found : Option (Reply × Option ℕ)). Tails IsTook c.args.words.now m b found)
    (λ (found : Option (Reply × Option ℕ)). TailsMeant c.args.op.now c.args.words.now a b found) c.notices_tail.result c.notices_tail.ensures
    (λ found h. notices_last c.args.op.now c.args.words.now a m b found c.requires none h)
