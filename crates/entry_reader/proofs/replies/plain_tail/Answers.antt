use Rattle.std.proofs.Common.{◌≡◌, [], ◌∷◌, ◌++◌}
use Rattle.history_report.specs.Report.{reply_words}
use Rattle.entry_reader.specs.Replies.{IsPlain}
use Rattle.entry_reader.proofs.ReplyParts.{as_words, ends_by, plain_behind, plain_empty, plain_fits, plain_unread}
use Rattle.entry_reader.proofs.replies.plain_tail.Goals as goal

pub returns-in_err-next : goal.returns-in_err-next
returns-in_err-next c = rw c.from_residual.ensures (as_words IsPlain c.args.words.now [] (let a = c.fork-words.ensures in let b = c.in_err-next.ensures.0 in cc) plain_empty)

pub returns-in_err-reply : goal.returns-in_err-reply
returns-in_err-reply c = rw c.from_residual-in_err-reply.ensures
    (as_words IsPlain c.args.words.now (c.in_ok-next.field-0.now ∷ c.next.new.self) (let a = c.fork-words.ensures in let b = c.in_ok-next.ensures in cc)
    (plain_unread c.in_ok-next.field-0.now c.next.new.self c.in_err-reply.ensures))

pub returns : goal.returns
returns c =
    let e : c.args.words.now ≡ c.in_ok-next.field-0.now ∷ c.next.new.self = (let a = c.fork-words.ensures in let b = c.in_ok-next.ensures in cc) in
    let r = c.in_ok-reply.reply in
    let k = c.in_ok-reply.ensures in
    let words : c.args.words.now ≡ reply_words r ++ c.next.new.self = (let h = k.1 in rw (h, e)) in
    ends_by IsPlain c.args.words.now c.next.new.self r c.end_of.result k.0 (plain_fits r k.0) words
    (λ n. as_words IsPlain c.args.words.now (c.in_ok-next.field-0.now ∷ c.next.new.self) e (plain_behind c.in_ok-next.field-0.now c.next.new.self n)) c.end_of.ensures
