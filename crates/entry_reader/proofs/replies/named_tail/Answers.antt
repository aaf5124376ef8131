use Rattle.std.proofs.Common.{◌≡◌, [], ◌∷◌, refl, ap, ◌∙◌}
use Rattle.joint_machine.specs.declared.events.Reply.TheVariants as reply
use Rattle.history_report.specs.Report.{managed_text}
use Rattle.entry_reader.specs.Replies.{IsNew}
use Rattle.entry_reader.proofs.ReplyParts.{as_words, ends_by, new_behind, new_empty, new_other, twin_behind}
use Rattle.entry_reader.proofs.replies.named_tail.Goals as goal

pub returns-in_err-word : goal.returns-in_err-word
returns-in_err-word c = rw c.from_residual.ensures (as_words (IsNew c.args.m) (managed_text c.args.m ∷ c.args.words.now)
    (managed_text c.args.m ∷ []) (ap (λ z. managed_text c.args.m ∷ z) c.in_err-word.ensures.0) (new_empty c.args.m (managed_text c.args.m)))

pub returns-then-is_same : goal.returns-then-is_same
returns-then-is_same c =
    let w : managed_text c.args.m ∷ c.args.words.now ≡ managed_text c.args.m ∷ c.in_ok-word.word.now ∷ c.next.new.self = ap (λ z. managed_text c.args.m ∷ z) c.in_ok-word.ensures in
    ends_by (IsNew c.args.m) (managed_text c.args.m ∷ c.args.words.now) c.next.new.self (reply.New c.args.m) c.end_of.result refl c.requires
    (w ∙ ap (λ z. managed_text c.args.m ∷ z ∷ c.next.new.self) c.if-is_same.ensures)
    (λ q. as_words (IsNew c.args.m) (managed_text c.args.m ∷ c.args.words.now) (managed_text c.args.m ∷ c.in_ok-word.word.now ∷ c.next.new.self) w
    (new_behind c.args.m (managed_text c.args.m) c.in_ok-word.word.now c.next.new.self c.if-is_same.ensures q)) c.end_of.ensures

pub returns-then-not-is_same : goal.returns-then-not-is_same
returns-then-not-is_same c = as_words (IsNew c.args.m) (managed_text c.args.m ∷ c.args.words.now) (managed_text c.args.m ∷ c.in_ok-word.word.now ∷ c.next.new.self)
    (ap (λ z. managed_text c.args.m ∷ z) c.in_ok-word.ensures) (new_other c.args.m (managed_text c.args.m) c.in_ok-word.word.now c.next.new.self c.if-is_same.ensures c.if-not-is_same.ensures)

pub returns : goal.returns
returns c =
    let w : managed_text c.args.m ∷ c.args.words.now ≡ managed_text c.args.m ∷ c.in_ok-word.word.now ∷ c.next.new.self = ap (λ z. managed_text c.args.m ∷ z) c.in_ok-word.ensures in
    ends_by (IsNew c.args.m) (managed_text c.args.m ∷ c.args.words.now) c.next.new.self (reply.Twin c.args.m) c.end_of-2.result refl c.requires
    (w ∙ ap (λ z. managed_text c.args.m ∷ z ∷ c.next.new.self) c.if-not-is_same.ensures)
    (λ q. as_words (IsNew c.args.m) (managed_text c.args.m ∷ c.args.words.now) (managed_text c.args.m ∷ c.in_ok-word.word.now ∷ c.next.new.self) w
    (twin_behind c.args.m (managed_text c.args.m) c.in_ok-word.word.now c.next.new.self c.if-not-is_same.ensures q)) c.end_of-2.ensures
