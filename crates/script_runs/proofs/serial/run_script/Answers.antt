use Rattle.std.proofs.lemmas.Result.{on_ok_weaker}
use Rattle.script_runs.specs.Running.{DrivesLeft}
use Rattle.script_runs.proofs.serial.run_script.Goals as goal

pub returns : goal.returns
returns g c = on_ok_weaker c.drive_left.result
    (λ (left : DrivesLeft c.run_all.new.driver c.drive_left.new.driver c.in_ok-last.last).
    record { last = c.in_ok-last.last; before = c.run_all.new.driver; come = c.in_ok-last.ensures; left = left; idle = c.drive_left.ensures.idle }) c.drive_left.ensures.ok
