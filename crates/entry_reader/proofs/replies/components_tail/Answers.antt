use Rattle.std.proofs.Common.{◌≡◌, [], ◌∷◌, codes, decimal, refl, ap, sym, ◌∙◌, arith}
use Rattle.joint_machine.specs.declared.events.Reply.TheVariants as reply
use Rattle.entry_reader.specs.Replies.{IsComponents}
use Rattle.entry_reader.proofs.ReplyParts.{as_words, components_behind, components_empty, components_other, components_short, components_unread, ends_by}
use Rattle.entry_reader.proofs.replies.components_tail.Goals as goal

pub returns-in_err-next : goal.returns-in_err-next
returns-in_err-next c = rw c.from_residual.ensures (as_words (IsComponents c.args.n) (decimal c.args.n ∷ codes "sccs" ∷ c.args.words.now)
    (decimal c.args.n ∷ codes "sccs" ∷ []) (ap (λ z. decimal c.args.n ∷ codes "sccs" ∷ z) c.in_err-next.ensures.0) (components_empty c.args.n (decimal c.args.n) (codes "sccs")))

pub returns-in_err-m : goal.returns-in_err-m
returns-in_err-m c = rw c.from_residual-in_err-m.ensures (as_words (IsComponents c.args.n) (decimal c.args.n ∷ codes "sccs" ∷ c.args.words.now)
    (decimal c.args.n ∷ codes "sccs" ∷ c.in_ok-next.field-0.now ∷ c.next.new.self) (ap (λ z. decimal c.args.n ∷ codes "sccs" ∷ z) c.in_ok-next.ensures)
    (components_unread c.args.n (decimal c.args.n) (codes "sccs") c.in_ok-next.field-0.now c.next.new.self c.in_err-m.ensures))

pub returns-in_err-next-2 : goal.returns-in_err-next-2
returns-in_err-next-2 c = rw c.from_residual-in_err-next-2.ensures
    (as_words (IsComponents c.args.n) (decimal c.args.n ∷ codes "sccs" ∷ c.args.words.now) (decimal c.args.n ∷ codes "sccs" ∷ c.in_ok-next.field-0.now ∷ [])
    (ap (λ z. decimal c.args.n ∷ codes "sccs" ∷ z) (c.in_ok-next.ensures ∙ ap (λ z. c.in_ok-next.field-0.now ∷ z) c.in_err-next-2.ensures.0))
    (components_short c.args.n (decimal c.args.n) (codes "sccs") c.in_ok-next.field-0.now))

pub returns-then-not-is_same : goal.returns-then-not-is_same
returns-then-not-is_same c = as_words (IsComponents c.args.n) (decimal c.args.n ∷ codes "sccs" ∷ c.args.words.now)
    (decimal c.args.n ∷ codes "sccs" ∷ c.in_ok-next.field-0.now ∷ c.in_ok-next-2.field-0.now ∷ c.next-2.new.self)
    (ap (λ z. decimal c.args.n ∷ codes "sccs" ∷ z) (c.in_ok-next.ensures ∙ ap (λ z. c.in_ok-next.field-0.now ∷ z) c.in_ok-next-2.ensures))
    (components_other c.args.n (decimal c.args.n) (codes "sccs") c.in_ok-next.field-0.now c.in_ok-next-2.field-0.now c.next-2.new.self c.if-not-is_same.ensures)

pub returns : goal.returns
returns c =
    let w : decimal c.args.n ∷ codes "sccs" ∷ c.args.words.now ≡ decimal c.args.n ∷ codes "sccs" ∷ c.in_ok-next.field-0.now ∷ c.in_ok-next-2.field-0.now ∷ c.next-2.new.self = ap
    (λ z. decimal c.args.n ∷ codes "sccs" ∷ z) (c.in_ok-next.ensures ∙ ap (λ z. c.in_ok-next.field-0.now ∷ z) c.in_ok-next-2.ensures) in
    let k = c.in_ok-m.ensures in
    let words = w ∙ (ap (λ z. decimal c.args.n ∷ codes "sccs" ∷ z ∷ c.in_ok-next-2.field-0.now ∷ c.next-2.new.self) (sym k.1)
    ∙ ap (λ z. decimal c.args.n ∷ codes "sccs" ∷ decimal c.in_ok-m.m ∷ z ∷ c.next-2.new.self) c.if-not-is_same.ensures) in
    ends_by (IsComponents c.args.n) (decimal c.args.n ∷ codes "sccs" ∷ c.args.words.now) c.next-2.new.self (reply.Sccs c.args.n c.in_ok-m.m) c.end_of.result refl (omega arith, k.0) words
    (λ q. as_words (IsComponents c.args.n) (decimal c.args.n ∷ codes "sccs" ∷ c.args.words.now)
    (decimal c.args.n ∷ codes "sccs" ∷ c.in_ok-next.field-0.now ∷ c.in_ok-next-2.field-0.now ∷ c.next-2.new.self) w
    (components_behind c.args.n (decimal c.args.n) (codes "sccs") c.in_ok-next.field-0.now c.in_ok-next-2.field-0.now c.next-2.new.self q)) c.end_of.ensures
