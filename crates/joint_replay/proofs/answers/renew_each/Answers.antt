-- One candidate more holds its new handle.
use Rattle.std.proofs.Common.{◌≡◌, ℕ, List, Option, take, get_or, length, sym, ap, ◌∙◌, arith, slice_get}
use Rattle.std.proofs.lemmas.List.{take_more, take_all, length-take-le}
use Rattle.joint_replay.specs.Answers.{answers_as, handle_in, renew_one, renewed_by}
use Rattle.joint_replay.proofs.Answering.{renewed-more}
use Rattle.joint_replay.proofs.answers.renew_each.Goals as goal

pub loop-i-preserved : goal.loop-i-preserved
loop-i-preserved c =
    let cs = c.args.candidates.now in
    let xs = answers_as c.args.answers.now in
    let i = c.loop-i.i in
    let m = get_or cs i 0 in
    let held = c.args.held.now.items in
    let len : length (take i cs) ≡ i = length-take-le i cs (omega (arith, c.loop-i-test.true)) in
    c.renew_row.ensures
    ∙ (ap (λ (l : List (Option ℕ)). renew_one l m c.given_at.result) c.loop-i.invariant
    ∙ (ap (renew_one (renewed_by held (take i cs) xs) m) (c.given_at.ensures ∙ ap (λ n. handle_in (slice_get xs n)) (sym len))
    ∙ (sym (renewed-more held (take i cs) m xs) ∙ ap (λ l. renewed_by held l xs) (sym (take_more cs i 0 c.loop-i-test.true)))))

pub returns : goal.returns
returns c = c.loop-i.invariant ∙ ap (λ l. renewed_by c.args.held.now.items l (answers_as c.args.answers.now)) (take_all c.loop-i.i c.args.candidates.now (omega (arith, c.loop-i-test.false)))
