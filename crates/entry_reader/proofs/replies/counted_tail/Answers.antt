use Rattle.std.proofs.Common.{◌≡◌, [], ◌∷◌, decimal, refl, ap, ◌∙◌, arith}
use Rattle.joint_machine.specs.declared.events.Reply.TheVariants as reply
use Rattle.entry_reader.specs.Replies.{IsCounted}
use Rattle.entry_reader.proofs.ReplyParts.{as_words, counted_else, counted_empty, counted_other, counted_refs, ends_as, ends_by}
use Rattle.entry_reader.proofs.replies.counted_tail.Goals as goal

pub returns-in_err-word : goal.returns-in_err-word
returns-in_err-word c = rw c.from_residual.ensures (as_words (IsCounted c.args.n) (decimal c.args.n ∷ c.args.words.now)
    (decimal c.args.n ∷ []) (ap (λ z. decimal c.args.n ∷ z) c.in_err-word.ensures.0) (counted_empty c.args.n (decimal c.args.n)))

pub returns-then-is_same : goal.returns-then-is_same
returns-then-is_same c =
    let w : decimal c.args.n ∷ c.args.words.now ≡ decimal c.args.n ∷ c.in_ok-word.word.now ∷ c.next.new.self = ap (λ z. decimal c.args.n ∷ z) c.in_ok-word.ensures in
    ends_by (IsCounted c.args.n) (decimal c.args.n ∷ c.args.words.now) c.next.new.self (reply.Refs c.args.n) c.end_of.result refl (omega arith)
    (w ∙ ap (λ z. decimal c.args.n ∷ z ∷ c.next.new.self) c.if-is_same.ensures)
    (λ q. as_words (IsCounted c.args.n) (decimal c.args.n ∷ c.args.words.now) (decimal c.args.n ∷ c.in_ok-word.word.now ∷ c.next.new.self) w
    (counted_refs c.args.n (decimal c.args.n) c.in_ok-word.word.now c.next.new.self c.if-is_same.ensures q)) c.end_of.ensures

pub returns-then-not-is_same : goal.returns-then-not-is_same
returns-then-not-is_same c = as_words (IsCounted c.args.n) (decimal c.args.n ∷ c.args.words.now) (decimal c.args.n ∷ c.in_ok-word.word.now ∷ c.next.new.self)
    (ap (λ z. decimal c.args.n ∷ z) c.in_ok-word.ensures) (counted_other c.args.n (decimal c.args.n) c.in_ok-word.word.now c.next.new.self c.if-is_same.ensures c.if-not-is_same.ensures)

pub returns : goal.returns
returns c = ends_as (IsCounted c.args.n) (decimal c.args.n ∷ c.args.words.now) (decimal c.args.n ∷ c.in_ok-word.word.now ∷ c.next.new.self) c.components_tail.result
    (ap (λ z. decimal c.args.n ∷ z) c.in_ok-word.ensures) (counted_else c.args.n
    (decimal c.args.n) c.in_ok-word.word.now c.next.new.self c.components_tail.result c.if-not-is_same.ensures c.components_tail.ensures)
