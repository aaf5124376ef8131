-- The step of the thread's own side, by that side's call.
use Rattle.std.proofs.Common.{◌<◌, ◌^◌, None, arith}
use Rattle.std.proofs.lemmas.Result.{IfOk-weaker}
use Rattle.joint_machine.specs.declared.events.Op.TheVariants as op
use Rattle.joint_machine.specs.Told.{nothing}
use Rattle.known_laws.proofs.Pinned.{none_stand}
use Rattle.joint_history.proofs.EventSteps.{managed_fits, peer_fits, step_asked}
use Rattle.joint_history.proofs.OneStep.{line_of_other, line_of_peer, step_is_made}
use Rattle.joint_history.proofs.shared.Shared.own_step.Goals as goal

pub make-requires-clause-pass : goal.make-requires-clause-pass
make-requires-clause-pass g c = (c.requires.run.0, c.requires.pass.1)

pub make-requires-clause-fits : goal.make-requires-clause-fits
make-requires-clause-fits g c =
    let short : c.args.index < 2 ^ 32 = omega (arith, c.ranges.index.fits) in
    peer_fits _ c.args.t c.args.mine.now.view c.args.index (op.Line c.args.act.now) None c.requires.may short
    (c.requires.event.peer (line_of_peer c.args.t _ c.args.act.now c.in-P.is)) c.requires.run.2

pub returns-in-P-clause-reads : goal.returns-in-P-clause-reads
returns-in-P-clause-reads g c = c.make.ensures.makes.0.reads

pub returns-in-P-clause-ok : goal.returns-in-P-clause-ok
returns-in-P-clause-ok g c = c.make.ensures.makes.0.ok

pub returns-in-P-clause-err : goal.returns-in-P-clause-err
returns-in-P-clause-err g c = c.make.ensures.makes.0.err

pub make-requires-in_default-clause-pass : goal.make-requires-in_default-clause-pass
make-requires-in_default-clause-pass g c = (c.requires.run.0, c.requires.pass.1)

pub make-requires-in_default-clause-fits : goal.make-requires-in_default-clause-fits
make-requires-in_default-clause-fits g c =
    let o = op.Line c.args.act.now in
    let side = line_of_other c.args.t c.args.act.now c.requires.pass.0 c.in_default.not-P in
    let is = step_is_made c.args.t c.args.act.now c.requires.event side c.requires.call in
    let short : c.args.index < 2 ^ 32 = omega (arith, c.ranges.index.fits) in
    managed_fits _ c.args.t c.args.mine.now.view c.args.index o None c.requires.may short _ _
    (step_asked _ c.args.t c.args.mine.now.view c.args.index o None c.requires.may short is c.requires.run.1)
    (λ order lent lent2 s s2 r d. (d.0, IfOk-weaker r _ _ (λ x q. record { told = nothing; asked = none_stand s.state.managed; drew = q }) d.1, d.2))

pub returns-in_default-clause-reads : goal.returns-in_default-clause-reads
returns-in_default-clause-reads g c = c.make-in_default.ensures.makes.reads

pub returns-in_default-clause-ok : goal.returns-in_default-clause-ok
returns-in_default-clause-ok g c = c.make-in_default.ensures.makes.ok

pub returns-in_default-clause-err : goal.returns-in_default-clause-err
returns-in_default-clause-err g c = c.make-in_default.ensures.makes.err
