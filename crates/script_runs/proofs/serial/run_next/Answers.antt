use Rattle.std.proofs.Common.{sym, ◌∙◌}
use Rattle.joint_machine.specs.declared.names.Thread.TheVariants.{C}
use Rattle.joint_machine.proofs.HeapLemmas.{same_thread}
use Rattle.script_runs.proofs.Told.{driver_comes, other_comes}
use Rattle.script_runs.proofs.serial.run_next.Goals as goal

pub run_other-requires-clause-other : goal.run_other-requires-clause-other
run_other-requires-clause-other g c = sym c.is_thread.ensures ∙ c.if-is_thread.false

pub returns-then-is_thread : goal.returns-then-is_thread
returns-then-is_thread g c = driver_comes c.args.number c.args.last c.args.line.now c.args.driver.now c.drive_line.new.driver c.args.others.now.items
    (sym (same_thread C c.args.line.now.0 (sym c.is_thread.ensures ∙ c.if-is_thread.true))) c.requires.others c.requires.up_to c.drive_line.ensures.index c.in_ok-drive_line.ensures.ok

pub returns : goal.returns
returns g c = other_comes c.args.number c.args.last c.args.line.now c.args.driver.now c.run_other.new.driver c.args.others.now.items c.run_other.new.others.items
    (sym c.is_thread.ensures ∙ c.if-is_thread.false) c.requires.driven.0 c.requires.driven.1 c.in_ok-run_other.ensures
