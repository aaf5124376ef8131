use Rattle.std.proofs.Common.{◌≡◌, [], ◌∷◌, ap, sym, ◌∙◌}
use Rattle.joint_machine.specs.declared.events.Reply.TheVariants as reply
use Rattle.entry_reader.specs.Replies.{IsHandle}
use Rattle.entry_reader.proofs.ReplyParts.{as_words, ends_by, handle_behind, handle_empty, handle_unread}
use Rattle.entry_reader.proofs.replies.handle_tail.Goals as goal

pub returns-in_err-next : goal.returns-in_err-next
returns-in_err-next c = rw c.from_residual.ensures (as_words IsHandle c.args.words.now [] (let a = c.fork-words.ensures in let b = c.in_err-next.ensures.0 in cc) handle_empty)

pub returns-in_err-h : goal.returns-in_err-h
returns-in_err-h c = rw c.from_residual-in_err-h.ensures (as_words IsHandle c.args.words.now (c.in_ok-next.field-0.now ∷ c.next.new.self)
    (let a = c.fork-words.ensures in let b = c.in_ok-next.ensures in cc) (handle_unread c.in_ok-next.field-0.now c.next.new.self c.in_err-h.ensures))

pub returns : goal.returns
returns c =
    let e : c.args.words.now ≡ c.in_ok-next.field-0.now ∷ c.next.new.self = (let a = c.fork-words.ensures in let b = c.in_ok-next.ensures in cc) in
    let k = c.in_ok-h.ensures in
    ends_by IsHandle c.args.words.now c.next.new.self (reply.H c.in_ok-h.h) c.end_of.result tt k.0 (e ∙ ap (λ z. z ∷ c.next.new.self) (sym k.1))
    (λ n. as_words IsHandle c.args.words.now (c.in_ok-next.field-0.now ∷ c.next.new.self) e (handle_behind c.in_ok-next.field-0.now c.next.new.self n)) c.end_of.ensures
