use Rattle.std.proofs.Common.{◌≡◌, ◌∷◌, ◌++◌, inl, inr, ap, sym, ◌∙◌}
use Rattle.entry_reader.specs.Replies.{IsKeyed}
use Rattle.entry_reader.proofs.ReplyParts.{as_words, ends_by, keyed_behind, keyed_short, keyed_unread}
use Rattle.entry_reader.proofs.replies.keyed_tail.Goals as goal

pub returns-in_err-key : goal.returns-in_err-key
returns-in_err-key c = rw c.from_residual.ensures (keyed_short c.args.words.now (inl (let a = c.fork-words.ensures in let b = c.in_err-key.ensures.0 in cc)))

pub returns-in_err-word : goal.returns-in_err-word
returns-in_err-word c = rw c.from_residual-in_err-word.ensures
    (let e : c.args.words.now ≡ c.in_ok-key.key.now ∷ c.next.new.self = (let a = c.fork-words.ensures in let b = c.in_ok-key.ensures in cc) in
    let none = c.in_err-word.ensures.0 in
    keyed_short c.args.words.now (inr (c.in_ok-key.key.now, e ∙ ap (λ z. c.in_ok-key.key.now ∷ z) none)))

pub returns-in_err-reply : goal.returns-in_err-reply
returns-in_err-reply c = rw c.from_residual-in_err-reply.ensures
    (let e : c.args.words.now ≡ c.in_ok-key.key.now ∷ c.next.new.self = (let a = c.fork-words.ensures in let b = c.in_ok-key.ensures in cc) in
    as_words IsKeyed c.args.words.now (c.in_ok-key.key.now ∷ c.in_ok-word.word.now ∷ c.next-2.new.self)
    (e ∙ ap (λ z. c.in_ok-key.key.now ∷ z) c.in_ok-word.ensures) (keyed_unread c.in_ok-key.key.now c.in_ok-word.word.now c.next-2.new.self c.in_err-reply.ensures))

pub returns : goal.returns
returns c =
    let e : c.args.words.now ≡ c.in_ok-key.key.now ∷ c.next.new.self = (let a = c.fork-words.ensures in let b = c.in_ok-key.ensures in cc) in
    let w : c.args.words.now ≡ c.in_ok-key.key.now ∷ c.in_ok-word.word.now ∷ c.next-2.new.self = e ∙ ap (λ z. c.in_ok-key.key.now ∷ z) c.in_ok-word.ensures in
    let k = c.in_ok-reply.ensures in
    ends_by IsKeyed c.args.words.now c.next-2.new.self c.in_ok-reply.reply c.end_of.result k.0 k.1 (w ∙ ap (λ z. z ++ c.next-2.new.self) (sym k.2))
    (λ n. as_words IsKeyed c.args.words.now (c.in_ok-key.key.now ∷ c.in_ok-word.word.now ∷ c.next-2.new.self) w (keyed_behind c.in_ok-key.key.now c.in_ok-word.word.now c.next-2.new.self n))
    c.end_of.ensures
