-- No slice makes an entry.
use Rattle.std.proofs.Common.{◌∙◌, sym, subst}
use Rattle.joint_machine.specs.Lines.{IsDriver}
use Rattle.joint_history.proofs.DriverMarks.{none_begun}
use Rattle.joint_history.proofs.DriverSnaps.{none_then_none}
use Rattle.joint_history.proofs.shared.Shared.mark_on.Goals as goal

pub slice-requires-clause-driver : goal.slice-requires-clause-driver
slice-requires-clause-driver g c = subst IsDriver (sym c.loop.invariant.2) c.requires.driver

pub slice-requires-clause-may : goal.slice-requires-clause-may
slice-requires-clause-may g c = (c.requires.may.0, none_begun c.args.driver.now.view c.loop.driver.view c.requires.may.0 c.loop.invariant.3 c.requires.may.1)

pub loop-preserved : goal.loop-preserved
loop-preserved g c = (tt, tt, c.slice.ensures.thread ∙ c.loop.invariant.2, none_then_none c.args.driver.now.view c.loop.driver.view c.slice.new.driver.view c.loop.invariant.3 c.slice.ensures.none)

pub returns-then-slice-clause-thread : goal.returns-then-slice-clause-thread
returns-then-slice-clause-thread g c = c.slice.ensures.thread ∙ c.loop.invariant.2

pub returns-then-slice-clause-none : goal.returns-then-slice-clause-none
returns-then-slice-clause-none g c = none_then_none c.args.driver.now.view c.loop.driver.view c.slice.new.driver.view c.loop.invariant.3 c.slice.ensures.none
