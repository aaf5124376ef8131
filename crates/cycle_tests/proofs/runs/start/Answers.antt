-- No caller has made anything, and the driver is idle.
use Rattle.std.proofs.Common.{sym, ap, subst}
use Rattle.joint_history.specs.Callers.{KnowsNothing}
use Rattle.bridge_cycle.specs.Progress.{Progress, pass_of}
use Rattle.bridge_cycle.proofs.Refusals.{idle_first}
use Rattle.cycle_tests.proofs.Starting.{starts_below, three_given}
use Rattle.cycle_tests.proofs.runs.start.Goals as goal

pub new-driver-requires-clause-idle : goal.new-driver-requires-clause-idle
new-driver-requires-clause-idle g c = idle_first c.in-Some-caller-2.caller c.in-Some-caller-2.ensures.nothing

pub invariant_of-result : goal.invariant_of-result
invariant_of-result g c = (
  three_given c.in_ok-shared.desk c.caller.new.self c.caller-2.new.self c.caller-3.new.self c.caller.result
      c.caller-2.result c.caller-3.result c.in-Some.one c.in-Some-caller.two c.in-Some-caller-2.caller
      c.in_ok-shared.ensures.all c.caller.ensures.all c.caller-2.ensures.all c.caller-3.ensures.all c.in-Some.is c.in-Some-caller.is c.in-Some-caller-2.is
      c.in-Some.ensures.thread c.in-Some-caller.ensures.thread c.in-Some-caller-2.ensures.thread,
  c.in-Some.ensures.thread,
  starts_below c.in-Some.one c.in-Some.ensures.nothing,
  c.in-Some-caller.ensures.thread,
  starts_below c.in-Some-caller.two c.in-Some-caller.ensures.nothing,
  starts_below (pass_of c.new-driver.result) (subst KnowsNothing (sym (ap (λ (p : Progress). p.view) c.new-driver.ensures)) c.in-Some-caller-2.ensures.nothing),
)
