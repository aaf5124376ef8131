use Rattle.std.proofs.Common.{[], ◌∷◌, ◌++◌, ap, subst, ◌∙◌}
use Rattle.joint_history.specs.Callers.{Pass}
use Rattle.joint_history.specs.Ending.{HasIdleDriver}
use Rattle.script_runs.proofs.serial.all_retired.Goals as goal

pub returns-clause-all : goal.returns-clause-all
returns-clause-all g c = c.in_ok-push.ensures.items ∙ ap (λ (p : Pass). c.args.others.items ++ p ∷ []) c.retire.ensures.pass

pub returns-clause-idle : goal.returns-clause-idle
returns-clause-idle g c = subst HasIdleDriver c.retire.ensures.pass c.retire.ensures.idle

pub returns-in_err-push-clause-idle : goal.returns-in_err-push-clause-idle
returns-in_err-push-clause-idle g c = subst HasIdleDriver c.retire.ensures.pass c.retire.ensures.idle
