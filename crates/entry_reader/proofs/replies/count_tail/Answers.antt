use Rattle.std.proofs.Common.{◌≡◌, [], ◌∷◌, ap, sym, ◌∙◌}
use Rattle.joint_machine.specs.declared.events.Reply.TheVariants as reply
use Rattle.entry_reader.specs.Replies.{IsCount}
use Rattle.entry_reader.proofs.ReplyParts.{as_words, ended, count_else, count_empty, count_unread}
use Rattle.entry_reader.proofs.replies.count_tail.Goals as goal

pub returns-in_err-next : goal.returns-in_err-next
returns-in_err-next c = rw c.from_residual.ensures (as_words IsCount c.args.words.now [] (let a = c.fork-words.ensures in let b = c.in_err-next.ensures.0 in cc) count_empty)

pub returns-in_err-n : goal.returns-in_err-n
returns-in_err-n c = rw c.from_residual-in_err-n.ensures (as_words IsCount c.args.words.now (c.in_ok-next.field-0.now ∷ c.next.new.self)
    (let a = c.fork-words.ensures in let b = c.in_ok-next.ensures in cc) (count_unread c.in_ok-next.field-0.now c.next.new.self c.in_err-n.ensures))

pub returns-in-Some : goal.returns-in-Some
returns-in-Some c =
    let e : c.args.words.now ≡ c.in_ok-next.field-0.now ∷ c.next.new.self = (let a = c.fork-words.ensures in let b = c.in_ok-next.ensures in cc) in
    let k = c.in_ok-n.ensures in
    ended IsCount c.args.words.now c.next.new.self (reply.Mark record { 0 = c.in_ok-n.n }) c.in-Some.tail tt k.0 (e ∙ ap (λ z. z ∷ c.next.new.self) (sym k.1)) (rw c.fork.ensures at c.in-Some.ensures)

pub returns : goal.returns
returns c =
    let e : c.args.words.now ≡ c.in_ok-next.field-0.now ∷ c.next.new.self = (let a = c.fork-words.ensures in let b = c.in_ok-next.ensures in cc) in
    let k = c.in_ok-n.ensures in
    count_else c.args.words.now c.next.new.self c.in_ok-n.n c.counted_tail.result (e ∙ ap (λ z. z ∷ c.next.new.self) (sym k.1)) k.0 (rw c.fork.ensures at c.in_default.ensures) c.counted_tail.ensures
