use Rattle.joint_machine.specs.declared.names.Thread.TheVariants.{M, P}
use Rattle.shared_tests.proofs.Resting.{both_given}
use Rattle.shared_tests.proofs.runs.play.Goals as goal

pub returns-clause-all : goal.returns-clause-all
returns-clause-all g c =
    both_given c.args.desk.now c.caller.new.self c.caller-2.new.self c.caller.result c.caller-2.result c.in-Some.one
    c.in-Some-caller.two c.run_lines.new.one c.run_lines.new.two (M 1) (P 1) c.in_ok-callers.callers.items
    c.requires c.caller.ensures.all c.caller-2.ensures.all c.in-Some.is c.in-Some-caller.is c.in-Some.ensures.thread
    c.in-Some-caller.ensures.thread c.run_lines.ensures.threads.0 c.run_lines.ensures.threads.1 c.in_ok-callers.ensures.items
