-- What is said of each such history is said of this one.
use Rattle.script_runs.proofs.serial.run_named.Goals as goal

pub returns-in-Ok : goal.returns-in-Ok
returns-in-Ok g c =
    let f = c.in-Ok.ensures in
    c.in_ok-shared.ensures.ran c.in-Ok.history f.linked f.finished f.few f.own f.begins
