use Rattle.std.proofs.Common.{◌≡◌, [], ◌∷◌, refl, ap, sym, ◌∙◌}
use Rattle.joint_machine.specs.declared.events.Reply.TheVariants as reply
use Rattle.bridge_script.specs.Words.{sort_text}
use Rattle.history_report.specs.Report.{handle_text, peer_text}
use Rattle.entry_reader.specs.Replies.{IsHeld}
use Rattle.entry_reader.proofs.ReplyParts.{as_words, ended, ends_by, held_empty, held_last, held_no_byte, held_no_end, held_no_handle, held_no_sort, held_no_word, same_cites}
use Rattle.entry_reader.proofs.replies.held_tail.Goals as goal

pub returns-in_err-next : goal.returns-in_err-next
returns-in_err-next c = rw c.from_residual.ensures (as_words (IsHeld c.args.p) (peer_text c.args.p ∷ c.args.words.now)
    (peer_text c.args.p ∷ []) (ap (λ z. peer_text c.args.p ∷ z) c.in_err-next.ensures.0) (held_empty c.args.p (peer_text c.args.p)))

pub returns-in_err-h : goal.returns-in_err-h
returns-in_err-h c = rw c.from_residual-in_err-h.ensures (as_words (IsHeld c.args.p) (peer_text c.args.p ∷ c.args.words.now) (peer_text c.args.p ∷ c.in_ok-next.field-0.now ∷ c.next.new.self)
    (ap (λ z. peer_text c.args.p ∷ z) c.in_ok-next.ensures) (held_no_handle c.args.p (peer_text c.args.p) c.in_ok-next.field-0.now c.next.new.self c.in_err-h.ensures))

pub returns-in-Some : goal.returns-in-Some
returns-in-Some c =
    let e : c.args.words.now ≡ c.in_ok-next.field-0.now ∷ c.next.new.self = c.in_ok-next.ensures in
    let w : peer_text c.args.p ∷ c.args.words.now ≡ peer_text c.args.p ∷ c.in_ok-next.field-0.now ∷ c.next.new.self = ap (λ z. peer_text c.args.p ∷ z) e in
    let k = c.in_ok-h.ensures in
    ended (IsHeld c.args.p) (peer_text c.args.p ∷ c.args.words.now) c.next.new.self (reply.Made c.args.p c.in_ok-h.h) c.in-Some.tail refl
    (c.requires, k.0) (w ∙ ap (λ z. peer_text c.args.p ∷ z ∷ c.next.new.self) (sym k.1)) (rw c.fork.ensures at c.in-Some.ensures)

pub returns-in_err-next-2 : goal.returns-in_err-next-2
returns-in_err-next-2 c = rw c.from_residual-in_err-next-2.ensures
    (let e : c.args.words.now ≡ c.in_ok-next.field-0.now ∷ c.next.new.self = c.in_ok-next.ensures in
    let n = rw c.fork.ensures at c.in_default.ensures in
    let none : c.next.new.self ≡ [] = c.in_err-next-2.ensures.0 in
    as_words (IsHeld c.args.p) (peer_text c.args.p ∷ c.args.words.now) (peer_text c.args.p ∷ c.in_ok-next.field-0.now ∷ [])
    (ap (λ z. peer_text c.args.p ∷ z) (e ∙ ap (λ z. c.in_ok-next.field-0.now ∷ z) none)) (held_last c.args.p (peer_text c.args.p) c.in_ok-next.field-0.now (same_cites c.next.new.self [] none n)))

pub returns-in_err-sort : goal.returns-in_err-sort
returns-in_err-sort c = rw c.from_residual-in_err-sort.ensures
    (let e : c.args.words.now ≡ c.in_ok-next.field-0.now ∷ c.next.new.self = c.in_ok-next.ensures in
    let n = rw c.fork.ensures at c.in_default.ensures in
    let f : c.next.new.self ≡ c.in_ok-next-2.field-0.now ∷ c.next-2.new.self = c.in_ok-next-2.ensures in
    as_words (IsHeld c.args.p) (peer_text c.args.p ∷ c.args.words.now) (peer_text c.args.p ∷ c.in_ok-next.field-0.now ∷ c.in_ok-next-2.field-0.now ∷ c.next-2.new.self)
    (ap (λ z. peer_text c.args.p ∷ z) (e ∙ ap (λ z. c.in_ok-next.field-0.now ∷ z) f))
    (held_no_sort c.args.p (peer_text c.args.p) c.in_ok-next.field-0.now c.in_ok-next-2.field-0.now c.next-2.new.self
    (same_cites c.next.new.self (c.in_ok-next-2.field-0.now ∷ c.next-2.new.self) f n) c.in_err-sort.ensures))

pub returns-in_err-next-3 : goal.returns-in_err-next-3
returns-in_err-next-3 c = rw c.from_residual-in_err-next-3.ensures
    (let e : c.args.words.now ≡ c.in_ok-next.field-0.now ∷ c.next.new.self = c.in_ok-next.ensures in
    let n = rw c.fork.ensures at c.in_default.ensures in
    let f : c.next.new.self ≡ c.in_ok-next-2.field-0.now ∷ c.next-2.new.self = c.in_ok-next-2.ensures in
    let none : c.next-2.new.self ≡ [] = c.in_err-next-3.ensures.0 in
    let h : c.next.new.self ≡ c.in_ok-next-2.field-0.now ∷ [] = f ∙ ap (λ z. c.in_ok-next-2.field-0.now ∷ z) none in
    as_words (IsHeld c.args.p) (peer_text c.args.p ∷ c.args.words.now) (peer_text c.args.p ∷ c.in_ok-next.field-0.now ∷ c.in_ok-next-2.field-0.now ∷ [])
    (ap (λ z. peer_text c.args.p ∷ z) (e ∙ ap (λ z. c.in_ok-next.field-0.now ∷ z) h))
    (held_no_word c.args.p (peer_text c.args.p) c.in_ok-next.field-0.now c.in_ok-next-2.field-0.now (same_cites c.next.new.self (c.in_ok-next-2.field-0.now ∷ []) h n)))

pub returns-in_err-n : goal.returns-in_err-n
returns-in_err-n c = rw c.from_residual-in_err-n.ensures
    (let e : c.args.words.now ≡ c.in_ok-next.field-0.now ∷ c.next.new.self = c.in_ok-next.ensures in
    let n = rw c.fork.ensures at c.in_default.ensures in
    let f : c.next.new.self ≡ c.in_ok-next-2.field-0.now ∷ c.next-2.new.self = c.in_ok-next-2.ensures in
    let g : c.next-2.new.self ≡ c.in_ok-next-3.field-0.now ∷ c.next-3.new.self = c.in_ok-next-3.ensures in
    let h : c.next.new.self ≡ c.in_ok-next-2.field-0.now ∷ c.in_ok-next-3.field-0.now ∷ c.next-3.new.self = f ∙ ap (λ z. c.in_ok-next-2.field-0.now ∷ z) g in
    as_words (IsHeld c.args.p) (peer_text c.args.p ∷ c.args.words.now) (peer_text c.args.p ∷ c.in_ok-next.field-0.now ∷ c.in_ok-next-2.field-0.now ∷ c.in_ok-next-3.field-0.now ∷ c.next-3.new.self)
    (ap (λ z. peer_text c.args.p ∷ z) (e ∙ ap (λ z. c.in_ok-next.field-0.now ∷ z) h))
    (held_no_byte c.args.p (peer_text c.args.p) c.in_ok-next.field-0.now c.in_ok-next-2.field-0.now c.in_ok-next-3.field-0.now c.next-3.new.self
    (same_cites c.next.new.self (c.in_ok-next-2.field-0.now ∷ c.in_ok-next-3.field-0.now ∷ c.next-3.new.self) h n) c.in_err-n.ensures))

pub returns : goal.returns
returns c =
    let e : c.args.words.now ≡ c.in_ok-next.field-0.now ∷ c.next.new.self = c.in_ok-next.ensures in
    let n = rw c.fork.ensures at c.in_default.ensures in
    let f : c.next.new.self ≡ c.in_ok-next-2.field-0.now ∷ c.next-2.new.self = c.in_ok-next-2.ensures in
    let g : c.next-2.new.self ≡ c.in_ok-next-3.field-0.now ∷ c.next-3.new.self = c.in_ok-next-3.ensures in
    let h : c.next.new.self ≡ c.in_ok-next-2.field-0.now ∷ c.in_ok-next-3.field-0.now ∷ c.next-3.new.self = f ∙ ap (λ z. c.in_ok-next-2.field-0.now ∷ z) g in
    let w : peer_text c.args.p ∷ c.args.words.now ≡ peer_text c.args.p ∷ c.in_ok-next.field-0.now ∷ c.in_ok-next-2.field-0.now ∷ c.in_ok-next-3.field-0.now ∷ c.next-3.new.self = ap
    (λ z. peer_text c.args.p ∷ z) (e ∙ ap (λ z. c.in_ok-next.field-0.now ∷ z) h) in
    let k = c.in_ok-h.ensures in
    let s = c.in_ok-sort.ensures in
    let b = c.in_ok-n.ensures in
    let words = w ∙ (ap (λ z. peer_text c.args.p ∷ z ∷ c.in_ok-next-2.field-0.now ∷ c.in_ok-next-3.field-0.now ∷ c.next-3.new.self) (sym k.1)
    ∙ (ap (λ z. peer_text c.args.p ∷ handle_text c.in_ok-h.h ∷ z ∷ c.in_ok-next-3.field-0.now ∷ c.next-3.new.self) (sym s)
    ∙ ap (λ z. peer_text c.args.p ∷ handle_text c.in_ok-h.h ∷ sort_text c.in_ok-sort.sort ∷ z ∷ c.next-3.new.self) (sym b.1))) in
    ends_by (IsHeld c.args.p) (peer_text c.args.p ∷ c.args.words.now) c.next-3.new.self (reply.Gripped c.args.p c.in_ok-h.h c.in_ok-sort.sort c.in_ok-n.n) c.end_of-2.result refl
    (c.requires, k.0, b.0) words (λ q. as_words (IsHeld c.args.p) (peer_text c.args.p ∷ c.args.words.now)
    (peer_text c.args.p ∷ c.in_ok-next.field-0.now ∷ c.in_ok-next-2.field-0.now ∷ c.in_ok-next-3.field-0.now ∷ c.next-3.new.self) w
    (held_no_end c.args.p (peer_text c.args.p) c.in_ok-next.field-0.now c.in_ok-next-2.field-0.now c.in_ok-next-3.field-0.now c.next-3.new.self
    (same_cites c.next.new.self (c.in_ok-next-2.field-0.now ∷ c.in_ok-next-3.field-0.now ∷ c.next-3.new.self) h n) q)) c.end_of-2.ensures
