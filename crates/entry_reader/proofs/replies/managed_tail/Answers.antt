use Rattle.std.proofs.Common.{◌≡◌, [], ◌∷◌, ap, sym, ◌∙◌}
use Rattle.joint_machine.specs.declared.events.Reply.TheVariants as reply
use Rattle.entry_reader.specs.Replies.{IsManaged}
use Rattle.entry_reader.proofs.ReplyParts.{as_words, ended, managed_else, managed_empty, managed_unread}
use Rattle.entry_reader.proofs.replies.managed_tail.Goals as goal

pub returns-in_err-next : goal.returns-in_err-next
returns-in_err-next c = rw c.from_residual.ensures (as_words IsManaged c.args.words.now [] (let a = c.fork-words.ensures in let b = c.in_err-next.ensures.0 in cc) managed_empty)

pub returns-in_err-m : goal.returns-in_err-m
returns-in_err-m c = rw c.from_residual-in_err-m.ensures (as_words IsManaged c.args.words.now (c.in_ok-next.field-0.now ∷ c.next.new.self)
    (let a = c.fork-words.ensures in let b = c.in_ok-next.ensures in cc) (managed_unread c.in_ok-next.field-0.now c.next.new.self c.in_err-m.ensures))

pub returns-in-Some : goal.returns-in-Some
returns-in-Some c =
    let e : c.args.words.now ≡ c.in_ok-next.field-0.now ∷ c.next.new.self = (let a = c.fork-words.ensures in let b = c.in_ok-next.ensures in cc) in
    let k = c.in_ok-m.ensures in
    ended IsManaged c.args.words.now c.next.new.self (reply.M c.in_ok-m.m) c.in-Some.tail tt k.0 (e ∙ ap (λ z. z ∷ c.next.new.self) (sym k.1)) (rw c.fork.ensures at c.in-Some.ensures)

pub returns : goal.returns
returns c =
    let e : c.args.words.now ≡ c.in_ok-next.field-0.now ∷ c.next.new.self = (let a = c.fork-words.ensures in let b = c.in_ok-next.ensures in cc) in
    let k = c.in_ok-m.ensures in
    managed_else c.args.words.now c.next.new.self c.in_ok-m.m c.named_tail.result (e ∙ ap (λ z. z ∷ c.next.new.self) (sym k.1)) k.0 (rw c.fork.ensures at c.in_default.ensures) c.named_tail.ensures
