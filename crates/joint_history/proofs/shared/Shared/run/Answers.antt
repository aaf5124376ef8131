-- A step of the thread's own side is an operation that ends with its first event; every other one is run event by event.
use Rattle.std.proofs.Common.{None, refl, sym, subst}
use Rattle.std.proofs.lemmas.Result.{IfOk-from_err}
use Rattle.joint_machine.proofs.Results.{at_error}
use Rattle.joint_machine.specs.declared.events.Op.TheVariants as op
use Rattle.joint_history.specs.Locked.{MayMake}
use Rattle.joint_history.specs.Operations.{IsSideEvent}
use Rattle.joint_history.proofs.LockedSteps.{keeps_reads}
use Rattle.joint_history.proofs.OneStep.{step_reads_none}
use Rattle.joint_history.proofs.Running.{first_begins, first_comes, first_ends, first_is_made, nothing_begun}
use Rattle.joint_history.proofs.Turning.{begins_still}
use Rattle.joint_history.proofs.shared.Shared.run.Goals as goal

pub own_step-requires-clause-event : goal.own_step-requires-clause-event
own_step-requires-clause-event g c = subst (IsSideEvent c.args.t) (c.if-not-is_step.ensures.first refl) (first_is_made c.args.t c.args.act.now c.requires.act)

pub own_step-requires-clause-call : goal.own_step-requires-clause-call
own_step-requires-clause-call g c = c.if-not-is_step.ensures.call refl

pub own_step-requires-clause-may : goal.own_step-requires-clause-may
own_step-requires-clause-may g c = subst (λ o. MayMake c.args.t c.args.mine.now.view c.args.index o None) (c.if-not-is_step.ensures.first refl)
    (first_comes c.args.t c.args.mine.now.view c.args.index c.args.act.now c.requires.pass.0 c.requires.begins)

pub returns-in_err-number-clause-begins : goal.returns-in_err-number-clause-begins
returns-in_err-number-clause-begins g c = begins_still c.args.t c.args.mine.now.view c.own_step.new.mine.view c.args.index c.in_err-number.ensures.err c.requires.begins

pub returns-in_err-number-clause-reads : goal.returns-in_err-number-clause-reads
returns-in_err-number-clause-reads g c = keeps_reads c.args.t c.args.mine.now.view c.own_step.new.mine.view c.args.reads.now.entries c.own_step.ensures.reads c.requires.reads

pub returns-in_err-number-clause-ok : goal.returns-in_err-number-clause-ok
returns-in_err-number-clause-ok g c = IfOk-from_err c.from_residual.result _ c.from_residual.ensures.0

pub returns-in_err-number-clause-exact : goal.returns-in_err-number-clause-exact
returns-in_err-number-clause-exact g c = IfOk-from_err c.from_residual.result _ c.from_residual.ensures.0

pub returns-in_err-number-clause-err : goal.returns-in_err-number-clause-err
returns-in_err-number-clause-err g c = at_error c.from_residual.result
    (nothing_begun c.args.t c.args.mine.now.view c.own_step.new.mine.view c.args.index c.args.act.now c.in_err-number.ensures.err)

pub returns-clause-begins : goal.returns-clause-begins
returns-clause-begins g c = first_begins c.args.t c.args.index c.args.act.now c.args.mine.now.view c.own_step.new.mine.view c.in_ok-number.number c.in_ok-number.reply
    (op.Line c.args.act.now) (sym (c.if-not-is_step.ensures.first refl)) c.in_ok-number.ensures.ok (c.if-not-is_step.ensures.only refl c.in_ok-number.reply)

pub returns-clause-reads : goal.returns-clause-reads
returns-clause-reads g c = keeps_reads c.args.t c.args.mine.now.view c.own_step.new.mine.view c.args.reads.now.entries c.own_step.ensures.reads c.requires.reads

pub returns-clause-ok : goal.returns-clause-ok
returns-clause-ok g c = first_ends c.args.t c.args.index c.args.act.now c.args.mine.now.view c.own_step.new.mine.view c.in_ok-number.number c.in_ok-number.reply
    (op.Line c.args.act.now) (sym (c.if-not-is_step.ensures.first refl)) c.in_ok-number.ensures.ok (c.if-not-is_step.ensures.only refl c.in_ok-number.reply)

pub returns-clause-exact : goal.returns-clause-exact
returns-clause-exact g c = step_reads_none c.args.t c.args.mine.now.view c.own_step.new.mine.view c.args.act.now c.in_ok-number.reply (c.if-not-is_step.ensures.call refl)
