use Rattle.std.proofs.Common.{None, sym, subst, ◌∙◌}
use Rattle.joint_history.specs.Locked.{MayMake}
use Rattle.joint_history.specs.Operations.{IsSideEvent, Runs}
use Rattle.std.proofs.lemmas.Result.{IfOk-from_err}
use Rattle.joint_machine.proofs.Results.{at_error}
use Rattle.joint_history.proofs.Running.{broken_begins, broken_off, exact_first, exact_later, first_begins, first_comes, first_ends, first_is_made, none_from, nothing_begun, second_begins}
use Rattle.joint_history.proofs.Running.{second_ends, then_second, third_begins, third_comes, third_ends, third_is_release}
use Rattle.joint_history.proofs.Turning.{begins_still}
use Rattle.joint_history.proofs.shared.Shared.run_events.Goals as goal

pub event-requires-clause-order : goal.event-requires-clause-order
event-requires-clause-order g c = c.requires.order

pub event-requires-clause-pass : goal.event-requires-clause-pass
event-requires-clause-pass g c = c.requires.pass

pub event-requires-clause-event : goal.event-requires-clause-event
event-requires-clause-event g c = subst (IsSideEvent c.args.t) (sym c.first_of-start.ensures) (first_is_made c.args.t c.args.act.now c.requires.act)

pub event-requires-clause-may : goal.event-requires-clause-may
event-requires-clause-may g c = subst (λ o. MayMake c.args.t c.args.mine.now.view c.args.index o None) (sym c.first_of-start.ensures)
    (first_comes c.args.t c.args.mine.now.view c.args.index c.args.act.now c.requires.pass.0 c.requires.begins)

pub returns-in_err-first-clause-order : goal.returns-in_err-first-clause-order
returns-in_err-first-clause-order g c = c.event.ensures.order

pub returns-in_err-first-clause-pass : goal.returns-in_err-first-clause-pass
returns-in_err-first-clause-pass g c = c.event.ensures.pass

pub returns-in_err-first-clause-begins : goal.returns-in_err-first-clause-begins
returns-in_err-first-clause-begins g c = begins_still c.args.t c.args.mine.now.view c.event.new.mine.view c.args.index c.in_err-first.ensures.err c.requires.begins

pub returns-in_err-first-clause-ok : goal.returns-in_err-first-clause-ok
returns-in_err-first-clause-ok g c = IfOk-from_err c.from_residual.result _ c.from_residual.ensures.0

pub returns-in_err-first-clause-err : goal.returns-in_err-first-clause-err
returns-in_err-first-clause-err g c = at_error c.from_residual.result (nothing_begun c.args.t c.args.mine.now.view c.event.new.mine.view c.args.index c.args.act.now c.in_err-first.ensures.err)

pub returns-in_default-clause-order : goal.returns-in_default-clause-order
returns-in_default-clause-order g c = c.event.ensures.order

pub returns-in_default-clause-pass : goal.returns-in_default-clause-pass
returns-in_default-clause-pass g c = c.event.ensures.pass

pub returns-in_default-clause-begins : goal.returns-in_default-clause-begins
returns-in_default-clause-begins g c = first_begins c.args.t c.args.index c.args.act.now c.args.mine.now.view c.event.new.mine.view c.in_ok-first.first c.in_ok-first.reply
    c.first_of-start.result c.first_of-start.ensures c.in_ok-first.ensures.ok (sym c.second_of.ensures ∙ none_from c.second_of.result c.in_default.not-Some)

pub returns-in_default-clause-ok : goal.returns-in_default-clause-ok
returns-in_default-clause-ok g c = first_ends c.args.t c.args.index c.args.act.now c.args.mine.now.view c.event.new.mine.view c.in_ok-first.first c.in_ok-first.reply
    c.first_of-start.result c.first_of-start.ensures c.in_ok-first.ensures.ok (sym c.second_of.ensures ∙ none_from c.second_of.result c.in_default.not-Some)

pub event-requires-2-clause-order : goal.event-requires-2-clause-order
event-requires-2-clause-order g c = c.event.ensures.order

pub event-requires-2-clause-pass : goal.event-requires-2-clause-pass
event-requires-2-clause-pass g c = (c.requires.pass.0, c.event.ensures.pass)

pub event-requires-2-clause-event : goal.event-requires-2-clause-event
event-requires-2-clause-event g c = (then_second c.args.t c.args.index c.args.act.now c.args.mine.now.view c.event.new.mine.view c.in_ok-first.first c.in_ok-first.reply
    c.first_of-start.result c.first_of-start.ensures c.in_ok-first.ensures.ok c.in-Some.next c.requires.act (sym c.second_of.ensures ∙ c.in-Some.is)).made

pub event-requires-2-clause-may : goal.event-requires-2-clause-may
event-requires-2-clause-may g c = (then_second c.args.t c.args.index c.args.act.now c.args.mine.now.view c.event.new.mine.view c.in_ok-first.first c.in_ok-first.reply
    c.first_of-start.result c.first_of-start.ensures c.in_ok-first.ensures.ok c.in-Some.next c.requires.act (sym c.second_of.ensures ∙ c.in-Some.is)).may

pub returns-in_err-second-clause-order : goal.returns-in_err-second-clause-order
returns-in_err-second-clause-order g c = c.event-2.ensures.order

pub returns-in_err-second-clause-pass : goal.returns-in_err-second-clause-pass
returns-in_err-second-clause-pass g c = c.event-2.ensures.pass

pub returns-in_err-second-clause-begins : goal.returns-in_err-second-clause-begins
returns-in_err-second-clause-begins g c = broken_begins c.args.t c.args.index c.args.act.now c.args.mine.now.view c.event.new.mine.view
    c.in_ok-first.first c.in_ok-first.reply c.first_of-start.result c.first_of-start.ensures c.in_ok-first.ensures.ok c.event-2.new.mine.view c.in-Some.next
    (sym c.second_of.ensures ∙ c.in-Some.is) c.in_err-second.ensures.err (λ is. let w = c.in_err-second.ensures.release is in cc)

pub returns-in_err-second-clause-ok : goal.returns-in_err-second-clause-ok
returns-in_err-second-clause-ok g c = IfOk-from_err c.from_residual-in_err-second.result _ c.from_residual-in_err-second.ensures.0

pub returns-in_err-second-clause-err : goal.returns-in_err-second-clause-err
returns-in_err-second-clause-err g c = at_error c.from_residual-in_err-second.result
    (broken_off c.args.t c.args.index c.args.act.now c.args.mine.now.view c.event.new.mine.view c.in_ok-first.first c.in_ok-first.reply c.first_of-start.result c.first_of-start.ensures
    c.in_ok-first.ensures.ok c.event-2.new.mine.view c.in-Some.next (sym c.second_of.ensures ∙ c.in-Some.is) c.in_err-second.ensures.err (λ is. let w = c.in_err-second.ensures.release is in cc))

pub returns-in_default-third_of-clause-order : goal.returns-in_default-third_of-clause-order
returns-in_default-third_of-clause-order g c = c.event-2.ensures.order

pub returns-in_default-third_of-clause-pass : goal.returns-in_default-third_of-clause-pass
returns-in_default-third_of-clause-pass g c = c.event-2.ensures.pass

pub returns-in_default-third_of-clause-begins : goal.returns-in_default-third_of-clause-begins
returns-in_default-third_of-clause-begins g c = second_begins c.args.t c.args.index c.args.act.now c.args.mine.now.view c.event.new.mine.view c.in_ok-first.first
    c.in_ok-first.reply c.first_of-start.result c.first_of-start.ensures c.in_ok-first.ensures.ok c.event-2.new.mine.view c.in-Some.next
    (sym c.second_of.ensures ∙ c.in-Some.is) c.in_ok-second.second c.in_ok-second.answer c.in_ok-second.ensures.ok (sym c.third_of.ensures ∙ none_from c.third_of.result c.in_default-third_of.not-Some)

pub returns-in_default-third_of-clause-ok : goal.returns-in_default-third_of-clause-ok
returns-in_default-third_of-clause-ok g c = subst (Runs c.args.t c.args.mine.now.view c.event-2.new.mine.view c.args.index c.args.act.now) (sym c.receipt_of_two.ensures)
    (second_ends c.args.t c.args.index c.args.act.now c.args.mine.now.view c.event.new.mine.view c.in_ok-first.first c.in_ok-first.reply c.first_of-start.result
    c.first_of-start.ensures c.in_ok-first.ensures.ok c.event-2.new.mine.view c.in-Some.next (sym c.second_of.ensures ∙ c.in-Some.is) c.in_ok-second.second
    c.in_ok-second.answer c.in_ok-second.ensures.ok c.requires.act (sym c.third_of.ensures ∙ none_from c.third_of.result c.in_default-third_of.not-Some))

pub event-requires-3-clause-order : goal.event-requires-3-clause-order
event-requires-3-clause-order g c = c.event-2.ensures.order

pub event-requires-3-clause-pass : goal.event-requires-3-clause-pass
event-requires-3-clause-pass g c = (c.requires.pass.0, c.event-2.ensures.pass)

pub event-requires-3-clause-event : goal.event-requires-3-clause-event
event-requires-3-clause-event g c = (third_comes c.args.t c.event.new.mine.view c.event-2.new.mine.view c.in_ok-first.first c.in_ok-second.second c.args.index c.args.act.now c.in_ok-first.reply
    c.in-Some.next c.in_ok-second.answer c.in-Some-third_of.end c.requires.act (sym c.second_of.ensures ∙ c.in-Some.is) c.in_ok-second.ensures.ok (sym c.third_of.ensures ∙ c.in-Some-third_of.is)).made

pub event-requires-3-clause-may : goal.event-requires-3-clause-may
event-requires-3-clause-may g c = (third_comes c.args.t c.event.new.mine.view c.event-2.new.mine.view c.in_ok-first.first c.in_ok-second.second c.args.index c.args.act.now c.in_ok-first.reply
    c.in-Some.next c.in_ok-second.answer c.in-Some-third_of.end c.requires.act (sym c.second_of.ensures ∙ c.in-Some.is) c.in_ok-second.ensures.ok (sym c.third_of.ensures ∙ c.in-Some-third_of.is)).may

pub returns-in_err-last-clause-order : goal.returns-in_err-last-clause-order
returns-in_err-last-clause-order g c = c.event-3.ensures.order

pub returns-in_err-last-clause-pass : goal.returns-in_err-last-clause-pass
returns-in_err-last-clause-pass g c = c.event-3.ensures.pass

pub returns-in_err-last-clause-begins : goal.returns-in_err-last-clause-begins
returns-in_err-last-clause-begins g c = absurd (let w = c.in_err-last.ensures.release
    (third_is_release c.in-Some.next c.in_ok-second.answer c.in-Some-third_of.end (sym c.third_of.ensures ∙ c.in-Some-third_of.is)) in cc)

pub returns-in_err-last-clause-ok : goal.returns-in_err-last-clause-ok
returns-in_err-last-clause-ok g c = IfOk-from_err c.from_residual-in_err-last.result _ c.from_residual-in_err-last.ensures.0

pub returns-in_err-last-clause-err : goal.returns-in_err-last-clause-err
returns-in_err-last-clause-err g c = absurd (let w = c.in_err-last.ensures.release
    (third_is_release c.in-Some.next c.in_ok-second.answer c.in-Some-third_of.end (sym c.third_of.ensures ∙ c.in-Some-third_of.is)) in cc)

pub returns-clause-order : goal.returns-clause-order
returns-clause-order g c = c.event-3.ensures.order

pub returns-clause-pass : goal.returns-clause-pass
returns-clause-pass g c = c.event-3.ensures.pass

pub returns-clause-begins : goal.returns-clause-begins
returns-clause-begins g c = third_begins c.args.t c.args.index c.args.act.now c.args.mine.now.view c.event.new.mine.view c.in_ok-first.first c.in_ok-first.reply c.first_of-start.result
    c.first_of-start.ensures c.in_ok-first.ensures.ok c.event-2.new.mine.view c.in-Some.next (sym c.second_of.ensures ∙ c.in-Some.is) c.in_ok-second.second c.in_ok-second.answer
    c.in_ok-second.ensures.ok c.event-3.new.mine.view c.in-Some-third_of.end (sym c.third_of.ensures ∙ c.in-Some-third_of.is) c.in_ok-last.last _ c.in_ok-last.ensures.ok

pub returns-clause-ok : goal.returns-clause-ok
returns-clause-ok g c = third_ends c.args.t c.args.index c.args.act.now c.args.mine.now.view c.event.new.mine.view c.in_ok-first.first c.in_ok-first.reply c.first_of-start.result
    c.first_of-start.ensures c.in_ok-first.ensures.ok c.event-2.new.mine.view c.in-Some.next (sym c.second_of.ensures ∙ c.in-Some.is) c.in_ok-second.second c.in_ok-second.answer
    c.in_ok-second.ensures.ok c.event-3.new.mine.view c.in-Some-third_of.end (sym c.third_of.ensures ∙ c.in-Some-third_of.is) c.in_ok-last.last _ c.in_ok-last.ensures.ok

pub returns-in_default-clause-exact : goal.returns-in_default-clause-exact
returns-in_default-clause-exact g c = exact_first c.args.t c.args.mine.now.view c.event.new.mine.view
    c.args.act.now c.first_of-start.result c.in_ok-first.reply c.first_of-start.ensures c.in_ok-first.ensures.exact

pub returns-in_default-third_of-clause-exact : goal.returns-in_default-third_of-clause-exact
returns-in_default-third_of-clause-exact g c = exact_later c.args.t c.args.mine.now.view c.event-2.new.mine.view
    c.args.act.now c.in_ok-first.reply c.in-Some.next c.receipt_of_two.result.reply (sym c.second_of.ensures ∙ c.in-Some.is)

pub returns-clause-exact : goal.returns-clause-exact
returns-clause-exact g c = exact_later c.args.t c.args.mine.now.view c.event-3.new.mine.view c.args.act.now
    c.in_ok-first.reply c.in-Some.next c.in_ok-second.answer (sym c.second_of.ensures ∙ c.in-Some.is)
