-- One candidate more has had the answer, if it holds the handle.
use Rattle.std.proofs.Common.{◌≡◌, List, Option, take, get_or, length, sym, ap, ◌∙◌, arith}
use Rattle.std.proofs.lemmas.List.{take_more, take_all, length-take-le}
use Rattle.joint_machine.specs.Run.{answered_for, is_that_handle}
use Rattle.joint_machine.specs.Managed.{handle_of}
use Rattle.joint_machine.specs.Told.{Answer}
use Rattle.joint_replay.specs.Answers.{said_as, answers_as, put_where}
use Rattle.joint_replay.proofs.Answering.{answered-more}
use Rattle.joint_replay.proofs.answers.answer_each.Goals as goal

pub loop-i-preserved : goal.loop-i-preserved
loop-i-preserved c =
    let s = c.args.managed.now in
    let cs = c.args.candidates.now in
    let xs = answers_as c.args.answers.now.items in
    let i = c.loop-i.i in
    let m = get_or cs i 0 in
    let h = c.args.h in
    let a = said_as c.args.said in
    let so_far = answered_for s h a (take i cs) xs in
    let len : length (take i cs) ≡ i = length-take-le i cs (omega (arith, c.loop-i-test.true)) in
    c.put_answer.ensures
    ∙ (ap (λ (l : List (Option Answer)). put_where c.gives.result l i a) c.loop-i.invariant
    ∙ (ap (λ b. put_where b so_far i a) c.gives.ensures
    ∙ (ap (λ n. put_where (is_that_handle (handle_of s m) h) so_far n a) (sym len)
    ∙ (sym (answered-more s h a (take i cs) m xs) ∙ ap (λ l. answered_for s h a l xs) (sym (take_more cs i 0 c.loop-i-test.true))))))

pub returns : goal.returns
returns c = c.loop-i.invariant ∙ ap (λ l. answered_for c.args.managed.now c.args.h (said_as c.args.said) l (answers_as c.args.answers.now.items))
    (take_all c.loop-i.i c.args.candidates.now (omega (arith, c.loop-i-test.false)))
