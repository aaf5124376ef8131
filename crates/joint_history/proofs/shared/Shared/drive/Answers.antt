use Rattle.std.proofs.Common.{sym, subst}
use Rattle.joint_machine.specs.declared.names.Thread.TheVariants.{C}
use Rattle.joint_machine.specs.Lines.{IsDriver}
use Rattle.joint_history.specs.Callers.{Pass}
use Rattle.joint_history.specs.Steps.{Fits}
use Rattle.joint_history.proofs.DriverCallers.{driver_called}
use Rattle.joint_history.proofs.DriverHears.{driver_pass, driver_pass_back, driver_reads}
use Rattle.joint_history.proofs.shared.Shared.drive.Goals as goal

pub make-requires-clause-pass : goal.make-requires-clause-pass
make-requires-clause-pass g c = (
  tt,
  driver_pass c.driver.inside.thread c.driver.inside.seat.view (subst (λ (p : Pass). IsDriver p.thread) (sym c.driver.view_is) c.requires.driver) c.driver.invariant.2,
)

pub make-requires-clause-fits : goal.make-requires-clause-fits
make-requires-clause-fits g c = subst (λ (p : Pass). Fits g.S.Sided.line (g.S.Sided.knows g.N.OrderName.managed g.N.OrderName.peers) C p.view
    (g.T.Step.asks c.args.step) (g.T.Step.drew c.args.step) (g.T.Step.makes c.args.step)) (sym c.driver.view_is) c.requires.fits

pub invariant_of-driver : goal.invariant_of-driver
invariant_of-driver g c =
    let driver = subst (λ (p : Pass). IsDriver p.thread) (sym c.driver.view_is) c.requires.driver in
    let made = subst (λ (p : Pass). g.T.Step.makes c.args.step p.view c.make.new.mine.view c.make.result) c.driver.view_is c.make.ensures.makes in (
      c.driver.invariant.0,
      c.make.ensures.order,
      driver_pass_back c.driver.inside.thread c.make.new.mine.view driver c.make.ensures.pass,
      driver_called c.driver.inside.thread c.make.new.mine.view driver (c.requires.knows c.make.new.mine.view c.make.result made),
      c.make.ensures.settled,
      driver_reads c.driver.inside.thread c.driver.inside.seat.view c.make.new.mine.view c.driver.inside.reads.entries driver c.driver.invariant.5,
    )

pub returns-clause-makes : goal.returns-clause-makes
returns-clause-makes g c = subst (λ (p : Pass). g.T.Step.makes c.args.step p.view c.make.new.mine.view c.make.result) c.driver.view_is c.make.ensures.makes
