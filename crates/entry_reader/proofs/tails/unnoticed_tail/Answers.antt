use Rattle.std.proofs.Common.{ℕ, Option}
use Rattle.joint_machine.specs.declared.events.Reply.{Reply}
use Rattle.entry_reader.specs.Replies.{TailsListed, TailsUnnoticed}
use Rattle.entry_reader.proofs.TailParts.{if_ok, unlisted_reads, unlisted_then}
use Rattle.entry_reader.proofs.tails.unnoticed_tail.Goals as goal

pub returns-in-Some : goal.returns-in-Some
returns-in-Some c = unlisted_reads c.args.op.now c.args.words.now c.args.lists.now c.in-Some.tail c.in-Some.ensures.0 c.in-Some.ensures.1

pub returns-in-None : goal.returns-in-None
returns-in-None c =
    let a = c.args.lists.now in
    let b = c.listed_tail.new.lists in
    if_ok (λ (found : Option (Reply × Option ℕ)). TailsListed c.args.op.now c.args.words.now a b found)
    (λ (found : Option (Reply × Option ℕ)). TailsUnnoticed c.args.op.now c.args.words.now a b found) c.listed_tail.result c.listed_tail.ensures
    (λ found h. unlisted_then c.args.op.now c.args.words.now a b found c.in-None.ensures h)
