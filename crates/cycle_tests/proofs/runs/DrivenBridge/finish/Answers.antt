use Rattle.std.proofs.Common.{ap}
use Rattle.joint_history.specs.Callers.{Pass}
use Rattle.cycle_tests.proofs.Starting.{three_idle, three_threads}
use Rattle.cycle_tests.proofs.runs.DrivenBridge.finish.Goals as goal

pub finish-requires-clause-all : goal.finish-requires-clause-all
finish-requires-clause-all g c = c.self.invariant.0 c.in-Ok.callers.items
    (three_threads c.retire.result c.self.inside.two c.self.inside.one c.in-Ok.callers.items c.in-Ok.ensures.items
    (ap (λ (p : Pass). p.thread) c.retire.ensures.pass) c.self.invariant.3 c.self.invariant.1)

pub finish-requires-clause-idle : goal.finish-requires-clause-idle
finish-requires-clause-idle g c = three_idle c.retire.result c.self.inside.two c.self.inside.one c.in-Ok.callers.items c.in-Ok.ensures.items c.retire.ensures.idle c.self.invariant.3 c.self.invariant.1
