use Rattle.std.proofs.Common.{inl, inr, sym, ◌∙◌}
use Rattle.report_reader.proofs.Places.{misended, misformed, not_empty, unclosed, unended, whole_front}
use Rattle.report_reader.proofs.endings.judge_end.Goals as goal

pub returns-then-bytes-ne101 : goal.returns-then-bytes-ne101
returns-then-bytes-ne101 c = rw c.refusal-then-bytes-ne101.ensures (inr (inl (misformed c.args.entries c.args.bytes.now (not_empty _ c.if-is_empty.ensures) c.if-bytes-ne101.true c.requires.stops)))

pub returns-in_default : goal.returns-in_default
returns-in_default c = rw c.refusal-in_default.ensures (inr (inl (unclosed c.args.entries c.args.bytes.now (not_empty _ c.if-is_empty.ensures) c.in_default.ensures)))

pub returns-in_default-end_number : goal.returns-in_default-end_number
returns-in_default-end_number c =
    let bytes = c.args.bytes.now in
    let text = whole_front c.front.result.now c.in-Some.text c.len.result c.front.ensures c.len.ensures in
    rw c.refusal-in_default-end_number.ensures
    (inr (inl (unended c.args.entries bytes c.in-Some.text c.in-Some.left.now c.in-Some.ensures.0 c.in-Some.ensures.1
    c.if-bytes-ne101.false (λ n l e. c.in_default-end_number.ensures n l (e ∙ sym text)))))

pub returns-then-n-entries : goal.returns-then-n-entries
returns-then-n-entries c =
    let text = whole_front c.front.result.now c.in-Some.text c.len.result c.front.ensures c.len.ensures in
    rw c.refusal-then-n-entries.ensures
    (inr (inl (misended c.args.entries c.args.bytes.now c.in-Some.text c.in-Some.left.now c.in-Some-end_number.n c.in-Some.ensures.0
    c.in-Some.ensures.1 c.in-Some-end_number.ensures.0 (c.in-Some-end_number.ensures.1 ∙ text) c.if-n-entries.true)))
