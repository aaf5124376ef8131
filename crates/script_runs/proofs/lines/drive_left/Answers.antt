-- The phases that were left lead to the idle one; and a cycle that found no memory for them was abandoned.
use Rattle.std.proofs.lemmas.Result.{on_err_weaker, on_ok_weaker}
use Rattle.bridge_cycle.specs.Progress.{RunsWords, StopsForMemory}
use Rattle.joint_machine.specs.Phases.{phases_left}
use Rattle.script_runs.proofs.Driving.{drives_left, either_way, left_leads}
use Rattle.script_runs.proofs.lines.drive_left.Goals as goal

pub returns-clause-ok : goal.returns-clause-ok
returns-clause-ok g c = on_ok_weaker c.end.result (drives_left c.args.driver.now c.end.new.self c.args.last) c.end.ensures.ok

pub returns-clause-idle : goal.returns-clause-idle
returns-clause-idle g c = either_way c.end.result (on_ok_weaker c.end.result
    (λ (k : RunsWords c.args.driver.now c.end.new.self c.args.last (phases_left c.args.driver.now.phase)). left_leads c.args.driver.now.phase c.end.new.self.phase k.1.leads) c.end.ensures.ok)
    (on_err_weaker c.end.result (λ (s : StopsForMemory c.args.driver.now c.end.new.self c.args.last (phases_left c.args.driver.now.phase)). s.idle) c.end.ensures.err)
