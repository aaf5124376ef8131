-- The slices make no entry, and then the sweep makes its own.
use Rattle.std.proofs.Common.{sym, subst}
use Rattle.joint_machine.specs.Lines.{IsDriver}
use Rattle.joint_history.proofs.DriverMarks.{none_begun, none_then_sweep}
use Rattle.joint_history.proofs.shared.Shared.sweep.Goals as goal

pub mark_on-requires-clause-may : goal.mark_on-requires-clause-may
mark_on-requires-clause-may g c = (c.args.index, c.requires.may)

pub end_own-requires-clause-driver : goal.end_own-requires-clause-driver
end_own-requires-clause-driver g c = subst IsDriver (sym c.mark_on.ensures.thread) c.requires.driver

pub end_own-requires-clause-may : goal.end_own-requires-clause-may
end_own-requires-clause-may g c = none_begun c.args.driver.now.view c.mark_on.new.driver.view c.args.index c.mark_on.ensures.none c.requires.may

pub returns-clause-makes : goal.returns-clause-makes
returns-clause-makes g c = none_then_sweep c.args.driver.now.view c.mark_on.new.driver.view c.end_own.new.driver.view
    c.args.index c.end_own.result.0 c.end_own.result.1 c.mark_on.ensures.none c.end_own.ensures.makes
