use Rattle.joint_machine.specs.declared.names.Thread.TheVariants.{M}
use Rattle.shared_tests.proofs.Starting.{one_goes_on}
use Rattle.shared_tests.proofs.memory.play.Goals as goal

pub returns-clause-all : goal.returns-clause-all
returns-clause-all g c = one_goes_on c.args.desk.now c.caller.new.self c.caller.result c.in-Some.one c.try_all-refused.new.one
    (M 1) c.in_ok-callers.callers.items c.requires c.caller.ensures.all c.in-Some.is c.in-Some.ensures.thread c.try_all-refused.ensures.thread c.in_ok-callers.ensures.items
