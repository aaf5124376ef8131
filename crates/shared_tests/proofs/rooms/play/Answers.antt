use Rattle.joint_machine.specs.declared.names.Thread.TheVariants.{M}
use Rattle.shared_tests.proofs.Starting.{one_goes_on}
use Rattle.shared_tests.proofs.rooms.play.Goals as goal

pub returns-clause-all : goal.returns-clause-all
returns-clause-all g c = one_goes_on c.args.desk.now c.caller.new.self c.caller.result c.in-Some.one c.set_and_read.new.one
    (M 1) c.in_ok-callers.callers.items c.requires c.caller.ensures.all c.in-Some.is c.in-Some.ensures.thread c.set_and_read.ensures.thread c.in_ok-callers.ensures.items
