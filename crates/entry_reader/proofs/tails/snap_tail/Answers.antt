use Rattle.std.proofs.Common.{ℕ, Option}
use Rattle.joint_machine.specs.declared.events.Reply.{Reply}
use Rattle.entry_reader.specs.Tailing.{Tails}
use Rattle.entry_reader.specs.Replies.{IsSwept, TailsNumbered}
use Rattle.entry_reader.proofs.TailParts.{if_ok, snap_first, snap_then}
use Rattle.entry_reader.proofs.tails.snap_tail.Goals as goal

pub returns-in-Some : goal.returns-in-Some
returns-in-Some c = snap_first c.args.op.now c.args.words.now c.args.lists.now c.snapped_tail.new.lists c.in-Some.tail c.requires (rw c.in-Some.is at c.in_ok-tail.ensures)

pub returns-in-None : goal.returns-in-None
returns-in-None c =
    let none = rw c.in-None.is at c.in_ok-tail.ensures in
    let a = c.args.lists.now in
    let m = c.snapped_tail.new.lists in
    let b = c.swept_tail.new.lists in
    if_ok (λ (found : Option (Reply × Option ℕ)). Tails IsSwept c.args.words.now m b found)
    (λ (found : Option (Reply × Option ℕ)). TailsNumbered c.args.op.now c.args.words.now a b found) c.swept_tail.result c.swept_tail.ensures
    (λ found h. snap_then c.args.op.now c.args.words.now a m b found c.requires none h)
