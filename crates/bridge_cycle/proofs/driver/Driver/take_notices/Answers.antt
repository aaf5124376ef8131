use Rattle.joint_machine.proofs.Results.{at_error}
use Rattle.bridge_cycle.proofs.Making.{driver_seen, keeps}
use Rattle.bridge_cycle.proofs.Refusals.{may_finalise, stayed_now, took_now}
use Rattle.bridge_cycle.proofs.driver.Driver.take_notices.Goals as goal

pub finalise-requires-clause-may : goal.finalise-requires-clause-may
finalise-requires-clause-may g c = may_finalise _ _ c.args.index (keeps _ _ _ c.self.invariant.1 c.self.view_is c.requires.index)

pub invariant_of-self : goal.invariant_of-self
invariant_of-self g c = (
  driver_seen c.finalise.ensures.thread c.self.invariant.0,
  (stayed_now _ _ c.args.index (keeps _ _ _ c.self.invariant.1 c.self.view_is c.requires.index)
      c.finalise.new.driver.view c.in_err-reply.ensures.err).held,
)

pub returns-in_err-reply-clause-err : goal.returns-in_err-reply-clause-err
returns-in_err-reply-clause-err g c =
    at_error c.from_residual.result (stayed_now _ _ c.args.index (keeps _ _ _ c.self.invariant.1 c.self.view_is c.requires.index)
    c.finalise.new.driver.view c.in_err-reply.ensures.err).runs

pub invariant_of-self-2 : goal.invariant_of-self-2
invariant_of-self-2 g c = (
  driver_seen c.finalise.ensures.thread c.self.invariant.0,
  (took_now _ _ c.args.index (keeps _ _ _ c.self.invariant.1 c.self.view_is c.requires.index)
      c.args.count c.in_ok-reply.field-0-0 c.finalise.new.driver.view c.in_ok-reply.reply c.in_ok-reply.ensures.ok).held,
)

pub returns-clause-index : goal.returns-clause-index
returns-clause-index g c =
    (took_now _ _ c.args.index (keeps _ _ _ c.self.invariant.1 c.self.view_is c.requires.index)
    c.args.count c.in_ok-reply.field-0-0 c.finalise.new.driver.view c.in_ok-reply.reply c.in_ok-reply.ensures.ok).line

pub returns-clause-ok : goal.returns-clause-ok
returns-clause-ok g c =
    (took_now _ _ c.args.index (keeps _ _ _ c.self.invariant.1 c.self.view_is c.requires.index)
    c.args.count c.in_ok-reply.field-0-0 c.finalise.new.driver.view c.in_ok-reply.reply c.in_ok-reply.ensures.ok).runs
